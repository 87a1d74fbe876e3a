-- What a table keeps as it is made anew, and that there is one way to make it so.
use Rattle.std.proofs.Common.{◌≡◌, ℕ, ◌^◌, ◌<◌, List, [], ◌∷◌, Option, Some, None, inl, inr, refl, sym, ap, subst, ◌∙◌, arith}
use Rattle.chain_core.specs.Nodes.{On}
use Rattle.chain_core.specs.Path.{IsPath}
use Rattle.chain_core.proofs.Members.{on_all}
use Rattle.marked_word.specs.Link.{link_word}
use Rattle.table_shape.specs.declared.place.Place.{Place}
use Rattle.table_shape.specs.declared.place.Place.TheVariants as place
use Rattle.intern_log.specs.Buckets.{bucket_of}
use Rattle.intern_log.specs.Now.{Now, now_of}
use Rattle.intern_log.proofs.OneMore.{now_of-one_more}
use Rattle.cht_core.specs.Heads.{used_head}
use Rattle.cht_core.specs.Memory.{Memory, links}
use Rattle.cht_core.specs.Past.{by}
use Rattle.cht_core.specs.Rehash.{IsRehashed, IsMadeAnew, IsAnew, IsAscending, seeds}
use Rattle.cht_core.specs.RehashStays.{SaysTheSame, KeepsWords, IsQuietBefore, HasOneOutcome}
use Rattle.cht_core.specs.Search.{IsLinked}
use Rattle.cht_core.proofs.HeadWords.{link_of_node}
use Rattle.cht_core.proofs.RehashQuiet.{is_quiet}
use Rattle.cht_core.proofs.RehashWords.{anew_or_not, bucket_below}

-- the log says what it said, with the next seed
pub says_the_same : SaysTheSame
says_the_same min_level log = now_of-one_more min_level log (by 0 (seeds (now_of min_level log)))

-- no other word has changed
pub keeps_words : KeepsWords
keeps_words m m' n made = record {
  draws = made.stay place.Draws (λ new. new);
  counter = made.stay place.Counter (λ new. new);
  resize_lock = made.stay place.ResizeLock (λ new. new);
  level = made.stay place.Level (λ new. new);
  new_level = made.stay place.NewLevel (λ new. new);
  sections = λ k. made.stay (place.Section k) (λ new. new);
  claims = λ s. made.stay (place.Claim s) (λ new. new);
  counts = λ s. made.stay (place.Count s) (λ new. new);
  texts = λ s at. made.stay (place.Text s at) (λ new. new);
  rows = λ row bucket differ. made.stay (place.Head row bucket) (λ new. differ new.0);
  links = λ s not. made.stay (place.Link s) not;
  metas = λ s not. made.stay (place.Meta s) not;
}

-- nothing is going on before it
pub is_quiet_before : IsQuietBefore
is_quiet_before t m seat log inv may = is_quiet t m seat log inv may

-- the first numbers of two ascending lists of the same numbers are equal
same_first : (x y : ℕ) (xs ys : List ℕ) → IsAscending (x ∷ xs) → IsAscending (y ∷ ys) → On x (y ∷ ys) → On y (x ∷ xs) → x ≡ y
same_first x y xs ys up also (inl is) back = sym is
same_first x y xs ys up also (inr on) (inl is) = is
same_first x y xs ys up also (inr on) (inr back) =
    let less : y < x = on_all (λ s. y < s) ys x also.0 on in
    let more : x < y = on_all (λ s. x < s) xs y up.0 back in
    absurd (omega (arith, less, more))

-- what is on the rest of the one is on the rest of the other
rest_on : (x s : ℕ) (xs ys : List ℕ) → IsAscending (x ∷ xs) → On s xs → On s (x ∷ ys) → On s ys
rest_on x s xs ys up on (inr there) = there
rest_on x s xs ys up on (inl is) = let above : x < s = on_all (λ k. x < k) xs s up.0 on in absurd (omega (arith, above, is))

-- so the lists are
same_lists : (xs ys : List ℕ) → IsAscending xs → IsAscending ys → ((s : ℕ) → On s xs → On s ys) → ((s : ℕ) → On s ys → On s xs) → xs ≡ ys
same_lists [] [] up also forth back = refl
same_lists [] (y ∷ ys) up also forth back = absurd (back y (inl refl))
same_lists (x ∷ xs) [] up also forth back = absurd (forth x (inl refl))
same_lists (x ∷ xs) (y ∷ ys) up also forth back =
    let first : x ≡ y = same_first x y xs ys up also (forth x (inl refl)) (back y (inl refl)) in
    let rest : xs ≡ ys = same_lists xs ys up.1 also.1
    (λ s on. rest_on x s xs ys up on (subst (λ k. On s (k ∷ ys)) (sym first) (forth s (inr on))))
    (λ s on. rest_on y s ys xs also on (subst (λ k. On s (k ∷ xs)) first (back s (inr on)))) in
    ap (λ k. k ∷ xs) first ∙ ap (λ l. y ∷ l) rest

-- a path begins with its first node, if it has one
first_node : List ℕ → Option ℕ
first_node [] = None
first_node (x ∷ nodes) = Some x

begins_with : (next : ℕ → Option ℕ) (first : Option ℕ) (nodes : List ℕ) → IsPath next first nodes → first ≡ first_node nodes
unfolding first_node
begins_with next first [] path = path
begins_with next first (x ∷ nodes) path = path.0

-- two paths of the same nodes lead on alike from each of them
same_next : (next also : ℕ → Option ℕ) (first other : Option ℕ) (nodes : List ℕ) (s : ℕ) → IsPath next first nodes → IsPath also other nodes → On s nodes → next s ≡ also s
same_next next also first other [] s path way on = absurd on
same_next next also first other (x ∷ nodes) s path way (inl is) =
    subst (λ k. next k ≡ also k) is (begins_with next (next x) nodes path.1 ∙ sym (begins_with also (also x) nodes way.1))
same_next next also first other (x ∷ nodes) s path way (inr on) = same_next next also (next x) (also x) nodes s path.1 way.1 on

module _ (m one other : Memory) (n : Now) (made : IsRehashed m one n) (again : IsRehashed m other n) where
  -- two chains of a bucket that were made anew have the same nodes
  same_nodes : (bucket : ℕ) (a : IsMadeAnew one n bucket) (b : IsMadeAnew other n bucket) → a.nodes ≡ b.nodes
  same_nodes bucket a b = same_lists a.nodes b.nodes a.ascending b.ascending (λ s on. (b.slots s).1 ((a.slots s).0 on)) (λ s on. (a.slots s).1 ((b.slots s).0 on))

  same_path : (bucket : ℕ) (a : IsMadeAnew one n bucket) (b : IsMadeAnew other n bucket) → IsPath (links other) b.first a.nodes
  same_path bucket a b = subst (IsPath (links other) b.first) (sym (same_nodes bucket a b)) b.path

  same_head : (bucket : ℕ) → bucket < 2 ^ n.level → one (place.Head n.level bucket) ≡ other (place.Head n.level bucket)
  same_head bucket below =
      let a : IsMadeAnew one n bucket = made.chains bucket below in
      let b : IsMadeAnew other n bucket = again.chains bucket below in
      let firsts : a.first ≡ b.first = begins_with (links one) a.first a.nodes a.path ∙ sym (begins_with (links other) b.first a.nodes (same_path bucket a b)) in
      a.head ∙ ap (λ first. used_head first None) firsts ∙ sym b.head

  same_link : (s : ℕ) → IsLinked n s → one (place.Link s) ≡ other (place.Link s)
  same_link s linked =
      let bucket : ℕ = bucket_of n.seed n.level linked.0 in
      let below : bucket < 2 ^ n.level = bucket_below n.seed n.level linked.0 in
      let a : IsMadeAnew one n bucket = made.chains bucket below in
      let b : IsMadeAnew other n bucket = again.chains bucket below in
      let on : On s a.nodes = (a.slots s).1 (linked.0, linked.1, linked.2, linked.3, refl) in
      let next : links one s ≡ links other s = same_next (links one) (links other) a.first b.first a.nodes s a.path (same_path bucket a b) on in
      sym (link_of_node (one (place.Link s))) ∙ ap link_word next ∙ link_of_node (other (place.Link s))

  -- each word that is made anew is the same in both
  same_new : (q : Place) → IsAnew n q → one q ≡ other q
  same_new (place.Head row bucket) new =
      subst (λ r. one (place.Head r bucket) ≡ other (place.Head r bucket)) (sym new.0) (same_head bucket (subst (λ r. bucket < 2 ^ r) new.0 new.1))
  same_new (place.Link s) linked = same_link s linked
  same_new (place.Meta s) linked = made.metas s linked.0 linked.1 linked.2 linked.3 ∙ sym (again.metas s linked.0 linked.1 linked.2 linked.3)
  same_new place.Draws new = absurd new
  same_new place.Counter new = absurd new
  same_new place.ResizeLock new = absurd new
  same_new place.Level new = absurd new
  same_new place.NewLevel new = absurd new
  same_new (place.Section k) new = absurd new
  same_new (place.Claim s) new = absurd new
  same_new (place.Count s) new = absurd new
  same_new (place.Text s at) new = absurd new

  -- and so is each other one
  same_word : (q : Place) → one q ≡ other q
  same_word q = elim (anew_or_not n q) [ inl new ↦ same_new q new | inr old ↦ made.stay q old ∙ sym (again.stay q old) ]

-- a table is made anew in one way
pub has_one_outcome : HasOneOutcome
has_one_outcome m one other n made again p = same_word m one other n made again p
