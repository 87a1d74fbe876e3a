-- The chains of a bucket that a grow unzips, and where its walkers stand.
use Rattle.std.proofs.Common.{◌≡◌, ℕ, ◌+◌, ◌-◌, ◌^◌, ◌<◌, ◌≤◌, ◌⊎◌, ◌↔◌, Bool, true, false, not, cond, List, [], ◌∷◌, ◌++◌, length, take, drop, Option, Some, refl, sym, ap, subst, ◌∙◌, append_assoc, inl, inr, arith}
use Rattle.std.specs.Prelude.{filter, nat_eq}
use Rattle.std.proofs.Math.Seq.{drop-append_seam, take-append_seam}
use Rattle.std.proofs.lemmas.Bool.{cases_eq, eq-eqb, ne_eqb}
use Rattle.std.proofs.lemmas.List.{length-append}
use Rattle.chain_core.specs.Nodes.{On, Once}
use Rattle.chain_core.specs.Path.{IsPath}
use Rattle.chain_core.proofs.Members.{on_left, on_right, on_either}
use Rattle.resize_core.specs.Unzip.{side_after, IsSplit}
use Rattle.text_words.specs.Hash.{hash_of}
use Rattle.marked_word.specs.Head.{first_of}
use Rattle.table_shape.specs.declared.place.Place.TheVariants as place
use Rattle.intern_log.specs.declared.event.Handle.{Handle}
use Rattle.intern_log.specs.Now.{OpenSection, Linked}
use Rattle.call_machine.specs.declared.resize.Chain.{Chain}
use Rattle.call_machine.specs.declared.resize.Chains as pairs
use Rattle.cht_core.specs.declared.table.Table.{Table}
use Rattle.cht_core.specs.Flow.{Flow, IsUsed, ComesTo}
use Rattle.cht_core.specs.KnowsResize.{Grade, Over, Raising, Until, Side, Unzipping, IsOver, IsReady, IsLatest, is_odd_in}
use Rattle.cht_core.specs.Memory.{Memory, links}
use Rattle.cht_core.specs.PartsResize.{IsLinkedIn, split_of, side_nodes}
use Rattle.cht_core.specs.Past.{Past}
use Rattle.cht_core.specs.Search.{IsFit}
use Rattle.cht_core.specs.Stage.{Stage, Splitting, Parted, bucket_in, next_row, IsSent, IsMixed, IsNearIn, IsSpared}
use Rattle.cht_core.specs.TableState.{IsTable}
use Rattle.cht_core.proofs.MoveParts.{IsHalf, half_in}
use Rattle.cht_core.proofs.PartsResizePaths.{path_of_head}
use Rattle.cht_core.proofs.ResizeUsed.{split_used}
use Rattle.cht_core.proofs.Stages.{halves, row_up}
use Rattle.cht_core.proofs.UnzipSides.{filter_on, on_filter, on_sides}

-- where no node of either side of a list stands twice before the rest, none stands twice
once_sides : (p : ℕ → Bool) (xs ys : List ℕ) → Once (filter (λ (x : ℕ). not (p x)) xs ++ ys) → Once (filter p xs ++ ys) → Once (xs ++ ys)
once_sides p [] ys others mine = mine
once_sides p (x ∷ xs) ys others mine = by_test (p x) refl others mine (once_sides p xs ys)
  where
    Others : List ℕ
    Others = filter (λ (x : ℕ). not (p x)) xs

    Mine : List ℕ
    Mine = filter p xs

    apart_mine : p x ≡ true → (On x (Mine ++ ys) → ⊥) → On x (xs ++ ys) → ⊥
    apart_mine is none on = elim (on_either xs ys x on) [ inl here ↦ none (on_left Mine ys x (on_filter p xs x here is)) | inr there ↦ none (on_right Mine ys x there) ]

    apart_other : p x ≡ false → (On x (Others ++ ys) → ⊥) → On x (xs ++ ys) → ⊥
    apart_other is none on = elim (on_either xs ys x on) [
      | inl here ↦ none (on_left Others ys x (on_filter (λ (x : ℕ). not (p x)) xs x here (ap not is)))
      | inr there ↦ none (on_right Others ys x there)
    ]

    by_test : (b : Bool) → p x ≡ b → Once (cond (not b) (x ∷ Others) Others ++ ys) → Once (cond b (x ∷ Mine) Mine ++ ys) → (Once (Others ++ ys) → Once (Mine ++ ys) → Once (xs ++ ys)) → Once (x ∷ xs ++ ys)
    by_test true is others mine rest = (apart_mine is mine.0, rest others mine.1)
    by_test false is others mine rest = (apart_other is others.0, rest others.1 mine)

-- a side after as many moves as a list has nodes
side_of_front : (p : ℕ → Bool) (xs ys : List ℕ) → side_after p (length xs) (xs ++ ys) ≡ filter p xs ++ ys
side_of_front p xs ys = ap (λ (front : List ℕ). filter p front ++ drop (length xs) (xs ++ ys)) (take-append_seam xs ys) ∙ ap (λ (back : List ℕ). filter p xs ++ back) (drop-append_seam xs ys)

-- what is behind the front is on both sides
on_both : (b : Bool) (p : ℕ → Bool) (k s : ℕ) (nodes : List ℕ) → On s (drop k nodes) → On s (side_nodes b p k nodes)
on_both true p k s nodes on = on_right (filter p (take k nodes)) (drop k nodes) s on
on_both false p k s nodes on = on_right (filter (λ (x : ℕ). not (p x)) (take k nodes)) (drop k nodes) s on

-- the node that was passed last is on both sides before its move
last_before : (b : Bool) (p : ℕ → Bool) (x : ℕ) (front rest : List ℕ) → On x (side_nodes b p (length (front ++ x ∷ []) - 1) ((front ++ x ∷ []) ++ rest))
last_before b p x front rest =
    let count : length (front ++ x ∷ []) - 1 ≡ length front = (let sum : length (front ++ x ∷ []) ≡ length front + 1 = length-append front (x ∷ []) in omega (arith, sum)) in
    let nodes : (front ++ x ∷ []) ++ rest ≡ front ++ x ∷ rest = append_assoc front (x ∷ []) rest in
    subst (λ (k : ℕ). On x (side_nodes b p k ((front ++ x ∷ []) ++ rest))) (sym count)
    (on_both b p (length front) x ((front ++ x ∷ []) ++ rest)
    (subst (λ (list : List ℕ). On x (drop (length front) list)) (sym nodes) (subst (λ (list : List ℕ). On x list) (sym (drop-append_seam front (x ∷ rest))) (inl refl))))

module _ (t : Table) (m : Memory) (p : Past) (f : Flow) (i l b : ℕ) (chains : pairs.Chains) (node : Option ℕ) (grade : Grade) (table : IsTable t m p f)
    (u : Unzipping m p.now f i l b chains node grade) where
  abbrev pub nodes : List ℕ
  nodes = u.done ++ u.rest

  abbrev pub moves : ℕ
  moves = length u.done

  abbrev odd_here : ℕ → Bool
  odd_here = is_odd_in p.now l b

  here : p.now.level ≡ l
  here = u.resizing.at_level

  used : (c : ℕ) → IsHalf l b c → IsUsed p.now f (l + 1) c
  used c half = split_used p.now f i l b c u.resizing u.below half

  -- callers with texts of the bucket come to the new row
  comes : (hash : ℕ) → bucket_in l hash ≡ b → ComesTo p.now f hash (l + 1)
  comes hash mine = inr (
    ap (λ (x : ℕ). x + 1) (sym here) ∙ sym (ap (λ (st : Stage). next_row st p.now.level) u.resizing.at_stage),
    subst (λ (st : Stage). IsSent st p.now.level hash) (sym u.resizing.at_stage) (subst (λ (x : ℕ). bucket_in x hash < b + 1) (sym here) (omega (arith, mine))),
  )

  half_of : (hash : ℕ) → bucket_in l hash ≡ b → IsHalf l b (bucket_in (l + 1) hash)
  half_of hash mine = elim (halves hash l) [ inl low ↦ inl (low ∙ mine) | inr high ↦ inr (high ∙ ap (λ (x : ℕ). x + 2 ^ l) mine) ]

  -- what is on a chain of the bucket is of the bucket
  of_bucket : (c s : ℕ) → IsHalf l b c → On s (f.chain (l + 1) c) → IsLinkedIn p.now l b s
  of_bucket c s half on =
      let is = table.chains.on_linked (l + 1) c s (used c half) on in (
        is.0,
        is.1,
        is.2,
        is.3,
        elim is.4 [
          | inl exact ↦ half_in l b c (hash_of p.now.seed is.0) u.below half exact
          | inr mixed ↦ (
              let at : IsMixed (Splitting b) p.now.level (l + 1) c (hash_of p.now.seed is.0) =
              subst (λ (st : Stage). IsMixed st p.now.level (l + 1) c (hash_of p.now.seed is.0)) u.resizing.at_stage mixed in
              subst (λ (x : ℕ). bucket_in x (hash_of p.now.seed is.0) ≡ b) here at.1)
        ],
      )

  -- each side is its chain
  even_chain : side_after (λ (x : ℕ). not (odd_here x)) moves nodes ≡ f.chain (l + 1) b
  even_chain = side_of_front (λ (x : ℕ). not (odd_here x)) u.done u.rest ∙ ap (λ (own : List ℕ). own ++ u.rest) (sym u.even_is) ∙ sym u.even.order

  odd_chain : side_after odd_here moves nodes ≡ f.chain (l + 1) (b + 2 ^ l)
  odd_chain = side_of_front odd_here u.done u.rest ∙ ap (λ (own : List ℕ). own ++ u.rest) (sym u.odd_is) ∙ sym u.odd.order

  -- both new heads lead along the nodes as after these moves
  pub split_here : IsSplit (split_of m l b) odd_here nodes moves
  split_here = record {
    even = subst (λ (list : List ℕ). IsPath (links m) (first_of (m (place.Head (l + 1) b))) list) (sym even_chain) (path_of_head t m p f table (l + 1) b (used b (inl refl)));
    odd = subst (λ (list : List ℕ). IsPath (links m) (first_of (m (place.Head (l + 1) (b + 2 ^ l)))) list) (sym odd_chain) (path_of_head t m p f table (l + 1) (b + 2 ^ l) (used (b + 2 ^ l) (inr refl)));
  }

  pub next_here : IsPath (links m) node (drop moves nodes)
  next_here = subst (λ (list : List ℕ). IsPath (links m) node list) (sym (drop-append_seam u.done u.rest)) u.path

  pub few_moves : moves ≤ length nodes
  few_moves = let sum : length nodes ≡ length u.done + length u.rest = length-append u.done u.rest in omega (arith, sum)

  pub once_here : Once nodes
  once_here = once_sides odd_here u.done u.rest
      (subst (λ (own : List ℕ). Once (own ++ u.rest)) u.even_is (subst Once u.even.order (table.chains.once (l + 1) b (used b (inl refl)))))
      (subst (λ (own : List ℕ). Once (own ++ u.rest)) u.odd_is (subst Once u.odd.order (table.chains.once (l + 1) (b + 2 ^ l) (used (b + 2 ^ l) (inr refl)))))

  -- a node of the bucket was passed, and is ready, or is left
  pub on_chain : (c s : ℕ) (chain : Chain) (side : Side m p.now f i l c chain u.rest grade) → On s (f.chain (l + 1) c) → (On s side.own × IsReady p.now f grade s) ⊎ On s u.rest
  on_chain c s chain side on = elim (on_either side.own u.rest s (subst (λ (list : List ℕ). On s list) side.order on)) [ inl own ↦ inl (own, (side.mine s own).5) | inr left ↦ inr left ]

  ready_or_left : (c s : ℕ) → IsHalf l b c → On s (f.chain (l + 1) c) → IsReady p.now f grade s ⊎ On s u.rest
  ready_or_left c s half on = elim half [
    | inl low ↦ elim (on_chain b s chains.even u.even (subst (λ (x : ℕ). On s (f.chain (l + 1) x)) low on)) [ inl own ↦ inl own.1 | inr left ↦ inr left ]
    | inr high ↦ elim (on_chain (b + 2 ^ l) s chains.odd u.odd (subst (λ (x : ℕ). On s (f.chain (l + 1) x)) high on)) [ inl own ↦ inl own.1 | inr left ↦ inr left ]
  ]

  -- the nodes are the linked slots of the bucket
  done_linked : (s : ℕ) → On s u.done → IsLinkedIn p.now l b s
  done_linked s on = elim (on_sides odd_here u.done s on) [
    | inl even ↦ of_bucket b s (inl refl) (subst (λ (list : List ℕ). On s list) (sym u.even.order) (on_left u.even.own u.rest s (subst (λ (list : List ℕ). On s list) (sym u.even_is) even)))
    | inr odd ↦ of_bucket (b + 2 ^ l) s (inr refl) (subst (λ (list : List ℕ). On s list) (sym u.odd.order) (on_left u.odd.own u.rest s (subst (λ (list : List ℕ). On s list) (sym u.odd_is) odd)))
  ]

  pub rest_linked : (s : ℕ) → On s u.rest → IsLinkedIn p.now l b s
  rest_linked s on = of_bucket b s (inl refl) (subst (λ (list : List ℕ). On s list) (sym u.even.order) (on_right u.even.own u.rest s on))

  own_done : (c s : ℕ) → IsHalf l b c → On s (f.chain (l + 1) c) → On s nodes
  own_done c s half on = elim half [
    | inl low ↦ elim (on_chain b s chains.even u.even (subst (λ (x : ℕ). On s (f.chain (l + 1) x)) low on)) [
      | inl own ↦ on_left u.done u.rest s (filter_on (λ (x : ℕ). not (odd_here x)) u.done s (subst (λ (list : List ℕ). On s list) u.even_is own.0)).0
      | inr left ↦ on_right u.done u.rest s left
    ]
    | inr high ↦ elim (on_chain (b + 2 ^ l) s chains.odd u.odd (subst (λ (x : ℕ). On s (f.chain (l + 1) x)) high on)) [
      | inl own ↦ on_left u.done u.rest s (filter_on odd_here u.done s (subst (λ (list : List ℕ). On s list) u.odd_is own.0)).0
      | inr left ↦ on_right u.done u.rest s left
    ]
  ]

  pub slots_here : (s : ℕ) → On s nodes ↔ IsLinkedIn p.now l b s
  slots_here s = (
    λ on. elim (on_either u.done u.rest s on) [ inl done ↦ done_linked s done | inr left ↦ rest_linked s left ],
    λ is.
        let hash : ℕ = hash_of p.now.seed is.0 in
        own_done (bucket_in (l + 1) hash) s (half_of hash is.4) (table.chains.linked_on s is.0 is.1 is.2 (l + 1) is.3 (comes hash is.4)),
  )

  -- the path of a text's side is the chain to which its callers come
  side_chain : (hash : ℕ) → bucket_in l hash ≡ b → side_nodes (nat_eq (bucket_in (l + 1) hash) (b + 2 ^ l)) odd_here moves nodes ≡ f.chain (l + 1) (bucket_in (l + 1) hash)
  side_chain hash mine = elim (half_of hash mine) [
    | inl low ↦ ap (λ (x : Bool). side_nodes x odd_here moves nodes)
        (ne_eqb (bucket_in (l + 1) hash) (b + 2 ^ l) (λ e. let up : 0 < 2 ^ l = row_up l in omega (arith, up, low, e))) ∙ even_chain ∙ ap (f.chain (l + 1)) (sym low)
    | inr high ↦ ap (λ (x : Bool). side_nodes x odd_here moves nodes) (eq-eqb (bucket_in (l + 1) hash) (b + 2 ^ l) high) ∙ odd_chain ∙ ap (f.chain (l + 1)) (sym high)
  ]

  -- a node of the other side that a walker stands on is left, or is the one that was passed last, and the walker's section is from before the raise for it
  abbrev pub IsLateFor : OpenSection → Grade → ℕ → Type 0
  IsLateFor o Over s = ⊥
  IsLateFor o (Raising x) s = s ≡ x
  IsLateFor o (Until x at) s = (s ≡ x) × (o.place ≤ at)

  over_late : (j s : ℕ) (o : OpenSection) → p.now.section j ≡ Some o → IsSpared (f.parted s) o.place → IsOver p.now f s → ⊥
  over_late j s o inside spared over =
      let early : o.place ≤ over.0 = subst (λ (part : Parted). IsSpared part o.place) over.1 spared in
      let late : over.0 < o.place = over.3 j o inside in
      omega (arith, early, late)

  late_for : (g : Grade) (j s : ℕ) (o : OpenSection) → p.now.section j ≡ Some o → IsSpared (f.parted s) o.place → IsReady p.now f g s → IsLateFor o g s
  late_for Over j s o inside spared ready = over_late j s o inside spared ready
  late_for (Raising x) j s o inside spared ready = elim ready [ inl over ↦ absurd (over_late j s o inside spared over) | inr last ↦ last.0 ]
  late_for (Until x at) j s o inside spared ready = elim ready [
    | inl over ↦ absurd (over_late j s o inside spared over)
    | inr last ↦ (last.0, subst (λ (part : Parted). IsSpared part o.place) last.1 spared)
  ]

  late_before : (g : Grade) (side : Bool) (s : ℕ) (o : OpenSection) → IsLatest g u.done → IsLateFor o g s → On s (side_nodes side odd_here (moves - 1) nodes)
  late_before Over side s o latest late = absurd late
  late_before (Raising x) side s o latest late =
      subst (λ (y : ℕ). On y (side_nodes side odd_here (moves - 1) nodes)) (sym late) (subst (λ (done : List ℕ). On x (side_nodes side odd_here (length done - 1) (done ++ u.rest))) (sym latest.1)
      (last_before side odd_here x latest.0 u.rest))
  late_before (Until x at) side s o latest late =
      subst (λ (y : ℕ). On y (side_nodes side odd_here (moves - 1) nodes)) (sym late.0) (subst (λ (done : List ℕ). On x (side_nodes side odd_here (length done - 1) (done ++ u.rest))) (sym latest.1)
      (last_before side odd_here x latest.0 u.rest))

  -- a walker of the bucket
  pub stands_here : (j s hash : ℕ) (o : OpenSection) (text : List ℕ) (h : Handle) (born : ℕ) → p.now.section j ≡ Some o → p.now.slot s ≡ Linked text h born → IsFit p.now f o.place hash s
      → bucket_in l hash ≡ b → let side = nat_eq (bucket_in (l + 1) hash) (b + 2 ^ l) in
      On s (side_nodes side odd_here moves nodes) ⊎ (IsLateFor o grade s × On s (side_nodes side odd_here (moves - 1) nodes))
  stands_here j s hash o text h born inside linked fit mine =
      let other : ℕ = hash_of p.now.seed text in
      let near : IsNearIn (Splitting b) p.now.level p.now.since o.place hash other =
      subst (λ (st : Stage). IsNearIn st p.now.level p.now.since o.place hash other) u.resizing.at_stage (fit.near text h born linked) in
      let same : bucket_in l other ≡ bucket_in l hash = subst (λ (x : ℕ). bucket_in x other ≡ bucket_in x hash) here near.0 in
      let on : On s (f.chain (l + 1) (bucket_in (l + 1) other)) = table.chains.linked_on s text h born (l + 1) linked (comes other (same ∙ mine)) in
      elim (cases_eq (bucket_in (l + 1) other) (bucket_in (l + 1) hash)) [
        | inl one ↦ inl (subst (λ (list : List ℕ). On s list) (sym (side_chain hash mine)) (subst (λ (c : ℕ). On s (f.chain (l + 1) c)) one on))
        | inr differ ↦ elim (ready_or_left (bucket_in (l + 1) other) s (half_of other (same ∙ mine)) on) [
          | inr left ↦ inl (on_both (nat_eq (bucket_in (l + 1) hash) (b + 2 ^ l)) odd_here moves s nodes (subst (λ (list : List ℕ). On s list) (sym (drop-append_seam u.done u.rest)) left))
          | inl ready ↦ (
              let spared : IsSpared (f.parted s) o.place = fit.side text h born linked (λ e. differ (subst (λ (x : ℕ). bucket_in (x + 1) other ≡ bucket_in (x + 1) hash) here e)) in
              let late : IsLateFor o grade s = late_for grade j s o inside spared ready in
              inr (late, late_before grade (nat_eq (bucket_in (l + 1) hash) (b + 2 ^ l)) s o u.latest late))
        ]
      ]
