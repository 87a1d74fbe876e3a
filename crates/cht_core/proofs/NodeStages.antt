-- The stages of a walk at a node: its meta word, its text word by word, its count, its link, and the count of a match, which is raised.
use Rattle.std.proofs.Common.{◌≡◌, ◌≢◌, ℕ, suc, ◌+◌, ◌<◌, ◌≤◌, ◌==◌, nat_lt, min, Bool, true, false, cond, List, ◌∷◌, length, Option, Some, None, refl, sym, ap}
use Rattle.std.proofs.Common.{subst, ◌∙◌, inl, inr, arith}
use Rattle.std.proofs.lemmas.Bool.{eqb-true}
use Rattle.std.proofs.lemmas.Bool.Decides.{nat_tests}
use Rattle.text_words.specs.Hash.{hash_of}
use Rattle.text_words.specs.Words.{words_of, word_at}
use Rattle.marked_word.specs.Head.{first_of}
use Rattle.marked_word.specs.Link.{node_of}
use Rattle.marked_word.specs.Meta.{meta_word}
use Rattle.table_shape.specs.declared.place.Place.TheVariants as place
use Rattle.intern_log.specs.declared.event.Kind.{Kind}
use Rattle.intern_log.specs.declared.event.Kind.TheVariants.{Counted, Weak}
use Rattle.intern_log.specs.declared.event.What.{What}
use Rattle.intern_log.specs.declared.event.What.TheVariants as what
use Rattle.intern_log.specs.Now.{Claimed, Linked, Unlinked}
use Rattle.atomic_step.specs.declared.answer.Answer.TheVariants as answer
use Rattle.atomic_step.specs.declared.step.Step.TheVariants as step
use Rattle.atomic_step.specs.Count.{holds_of, handle_at}
use Rattle.atomic_step.specs.Event.{found_entry}
use Rattle.call_machine.proofs.Nodes.{few_slots}
use Rattle.call_machine.specs.declared.node.NodeStage.{NodeStage}
use Rattle.call_machine.specs.declared.node.NodeStage.TheVariants as node
use Rattle.call_machine.specs.declared.stage.Along.{Along}
use Rattle.call_machine.specs.declared.stage.Asked.{Asked}
use Rattle.call_machine.specs.declared.stage.CallStage.TheVariants as stage
use Rattle.call_machine.specs.declared.stage.Goal.{Goal}
use Rattle.call_machine.specs.declared.stage.Goal.TheVariants.{Lookup, Intern, InternWait}
use Rattle.call_machine.specs.Leave.{leaves_with, loses_with}
use Rattle.call_machine.specs.Node.{node_row, comes_to, compares_from, matches, met, passes}
use Rattle.call_machine.specs.SoundCall.{HasSoundNode, IsSoundAsked}
use Rattle.call_machine.specs.Sought.{meta_of}
use Rattle.cht_core.specs.declared.table.Table.{Table}
use Rattle.cht_core.specs.Flow.{Flow, holds_after}
use Rattle.cht_core.specs.KnowsCall.{AtNode, KnowsKept, KnowsNode, KnowsStage, KnowsCall}
use Rattle.cht_core.specs.Memory.{Memory, IsMade, links}
use Rattle.cht_core.specs.Past.{Past, past_after, by, told}
use Rattle.cht_core.specs.Search.{IsNoMatch, IsSeenLike, IsSeenWith, Walking}
use Rattle.cht_core.specs.TableState.{IsTable}
use Rattle.cht_core.proofs.Basics.{after_load}
use Rattle.cht_core.proofs.CallTurns.{Serves, SameClaimed, kept_stays, leaving_known, walk_known}
use Rattle.cht_core.proofs.Ties.{IsAskedOf}
use Rattle.cht_core.proofs.WalkWords.{no_match_by_meta, no_match_by_text, no_match_by_count, seen_by_meta, seen_by_text, seen_whole}
use Rattle.cht_core.proofs.Walks.{node_fit, passes_node, few_passed}

-- a slot that is seen with a text is none that a seat has claimed
pub seen_unclaimed : (p : Past) (i k s other : ℕ) (text : List ℕ) → IsSeenWith p.now i s text → p.now.slot other ≡ Claimed k → other ≢ s
seen_unclaimed p i k s other text seen claimed same = elim seen.2 [
  | inl l ↦ (let clash : Claimed k ≡ Linked l.0 l.1 l.2 = sym claimed ∙ ap p.now.slot same ∙ l.3 in cc)
  | inr u ↦ (let clash : Claimed k ≡ Unlinked u.0 u.1 = sym claimed ∙ ap p.now.slot same ∙ u.2 in cc)
]

module _ (t : Table) (m : Memory) (p : Past) (f : Flow) (table : IsTable t m p f) (i load : ℕ) (passed : List ℕ) (q : Asked) (w : Along)
    (asked : IsAskedOf t p.now i q) (sound : IsSoundAsked q) where
  -- a node was compared up to a word: where all is the same the comparison goes on, or the count comes next, and else the link
  compared : (s at : ℕ) (b : Bool) → AtNode m p.now f i load passed q w s → (b ≡ true → IsSeenLike p.now i s q.text at) → (b ≡ false → IsNoMatch p.now q.text load s)
      → KnowsNode m p.now f i load passed q w (cond b (compares_from q.text s at) (node.Link s))
  compared s at false here same other = (here, other refl)
  compared s at true here same other = go (nat_lt at (words_of (length q.text))) refl
    where
      go : (more : Bool) → nat_lt at (words_of (length q.text)) ≡ more → KnowsNode m p.now f i load passed q w (cond more (node.Text s at) (node.Count s))
      go true is = (here, same refl)
      go false is = (here, seen_whole t m p f table i s q.text at asked.bytes (grind (arith, nat_tests)) (same refl))

  -- the meta word of a node
  serves_meta : (x : ℕ) → KnowsCall m p f i load passed q w (stage.Node (node.Meta x)) → Serves t m p f i load passed q (node_row q w (node.Meta x))
  serves_meta x h = record {
    backs = tt;
    leads = λ m' made went.
        let word : ℕ = m (place.Meta x) in
        let own : ℕ = meta_word (meta_of q.seed q.text) in
        let at : AtNode m p.now f i load passed q w x = h.0.0 in
        let searched = at.walking.searched in
        let held = (node_fit t m p f table i q.text (hash_of q.seed q.text) w.walk.row load (first_of w.walk.head) passed x at.walking).held in
        subst (λ (now : Memory). KnowsCall now p f i load passed q w (stage.Node (cond (word == own) (compares_from q.text x 0) (node.Link x)))) (sym (after_load (step.LoadMeta x) m m' refl made)) (
          (
            compared x 0 (word == own) at
                (λ is. seen_by_meta t m p f table i q.seed q.text x searched.section searched.inside held sound.room.0 (eqb-true word own is))
                (λ is. no_match_by_meta t m p f table q.seed q.text load x asked.seed is),
            h.0.1,
          ),
          h.1,
        );
  }

  -- a word of its text
  serves_text : (x at : ℕ) → at < words_of (length q.text) → KnowsCall m p f i load passed q w (stage.Node (node.Text x at)) → Serves t m p f i load passed q (node_row q w (node.Text x at))
  serves_text x at within h = record {
    backs = tt;
    leads = λ m' made went.
        let word : ℕ = m (place.Text x at) in
        let own : ℕ = word_at q.text at in
        subst (λ (now : Memory). KnowsCall now p f i load passed q w (stage.Node (cond (word == own) (compares_from q.text x (at + 1)) (node.Link x))))
        (sym (after_load (step.LoadText x at) m m' refl made)) (
          (
            compared x (at + 1) (word == own) h.0.0.0
                (λ is. seen_by_text t m p f table i x q.text at within (eqb-true word own is) h.0.0.1)
                (λ is. no_match_by_text t m p f table q.text load x at within is),
            h.0.1,
          ),
          h.1,
        );
  }

  -- its count
  counted : (x : ℕ) → AtNode m p.now f i load passed q w x → IsSeenWith p.now i x q.text → KnowsKept m p.now i q w → w.walk.passed ≤ q.shape.slots
      → (kind : Kind) (b : Bool) → (holds_of (m (place.Count x)) == 0) ≡ b
      → KnowsCall m (told p i (found_entry q.text kind x (m (place.Count x))))
      (record f { chain = f.chain; holds = holds_after i (found_entry q.text kind x (m (place.Count x))) f.holds }) i load passed q w
      (cond b (stage.Node (node.Link x)) (matches q w kind x (m (place.Count x))))
  counted x at seen kept few Counted true is = (((at, no_match_by_count t m p f table q.text load x is), kept), few)
  counted x at seen kept few Counted false is = (((seen, some (holds_of (m (place.Count x))) is), kept), few)
    where
      some : (n : ℕ) → (n == 0) ≡ false → 1 ≤ n
      some n is = grind (arith, nat_tests)
  counted x at seen kept few Weak true is =
      subst (λ (e : Option What). KnowsCall m (told p i e) (record f { chain = f.chain; holds = holds_after i e f.holds }) i load passed q w (stage.Node (node.Link x)))
      (sym (ap (λ (b : Bool). cond b None (Some (what.Found q.text (handle_at x (m (place.Count x)))))) is))
      (((at, no_match_by_count t m p f table q.text load x is), kept), few)
  counted x at seen kept few Weak false is =
      subst (λ (e : Option What). KnowsCall m (told p i e) (record f { chain = f.chain; holds = holds_after i e f.holds }) i load passed q w (matches q w Weak x (m (place.Count x))))
      (sym (ap (λ (b : Bool). cond b None (Some (what.Found q.text (handle_at x (m (place.Count x)))))) is)) (
        leaving_known m (past_after p (by i (what.Found q.text (handle_at x (m (place.Count x)))))) f i load passed q w w.kept (met Weak q.goal (handle_at x (m (place.Count x))))
            (seen.0, seen.1) kept,
        few,
      )

  serves_count : (x : ℕ) → KnowsCall m p f i load passed q w (stage.Node (node.Count x)) → Serves t m p f i load passed q (node_row q w (node.Count x))
  serves_count x h = record {
    backs = (asked.kind, h.0.0.1);
    leads = λ m' made went.
        let word : ℕ = m (place.Count x) in
        let e : Option What = found_entry q.text q.kind x word in
        subst (λ (now : Memory). KnowsCall now (told p i e) (record f { chain = f.chain; holds = holds_after i e f.holds }) i load passed q w
        (cond (holds_of word == 0) (stage.Node (node.Link x)) (matches q w q.kind x word))) (sym (after_load (step.SeeEntry q.kind x) m m' refl made))
        (counted x h.0.0.0 h.0.0.1 h.0.1 h.1 q.kind (holds_of word == 0) refl);
  }

  -- its link: one more node is passed
  serves_link : (x : ℕ) → KnowsCall m p f i load passed q w (stage.Node (node.Link x)) → Serves t m p f i load passed q (node_row q w (node.Link x))
  serves_link x h = record {
    backs = tt;
    leads = λ m' made went.
        let at : AtNode m p.now f i load passed q w x = h.0.0.0 in
        let hash : ℕ = hash_of q.seed q.text in
        let walking : Walking m p.now f i q.text hash w.walk.row load (first_of w.walk.head) (x ∷ passed) (links m x) =
        passes_node t m p f table i q.text hash w.walk.row load (first_of w.walk.head) passed x h.0.0.1 at.walking in
        let few : length (x ∷ passed) ≤ t.shape.slots = few_passed t m p f table i q.text hash w.walk.row load (first_of w.walk.head) (x ∷ passed) walking.ahead walking.searched in
        let small : t.shape.slots < 4294967295 = few_slots t.shape table.shape in
        let before : w.walk.passed ≡ length passed = at.counted in
        let now_passed : min (w.walk.passed + 1) 4294967295 ≡ suc (length passed) = one_more w.walk.passed (length passed) t.shape.slots before few small in
        subst (λ (now : Memory). KnowsCall now p f i load (x ∷ passed) q (record w { walk = passes w.walk }) (comes_to q w w.walk.head (node_of (m (place.Link x)))))
        (sym (after_load (step.LoadLink x) m m' refl made)) (
          walk_known m p f i load (x ∷ passed) q w (passes w.walk) (links m x) walking at.bucket now_passed at.plain h.0.1,
          subst (λ (n : ℕ). n ≤ q.shape.slots) (sym now_passed) (subst (λ shape. suc (length passed) ≤ shape.slots) (sym asked.shape) few),
        );
  }
    where
      one_more : (n len slots : ℕ) → n ≡ len → suc len ≤ slots → slots < 4294967295 → min (n + 1) 4294967295 ≡ suc len
      one_more n len slots same few small = grind (arith, nat_tests)

  -- the count of a match is exchanged for one more
  serves_take : (x count : ℕ) → q.kind ≡ Counted → KnowsCall m p f i load passed q w (stage.Node (node.Take x count)) → Serves t m p f i load passed q (node_row q w (node.Take x count))
  serves_take x count kind h = record { backs = (sym asked.kind ∙ kind, h.0.0.0, h.0.0.1); leads = λ m' made went. (goes m' made (m (place.Count x) == count), h.1) }
    where
      seen : IsSeenWith p.now i x q.text
      seen = h.0.0.0

      same : (m' : Memory) → IsMade (step.TakeEntry x count) m m' → SameClaimed m p.now m' p.now i
      same m' made = record {
        claimed = λ s is. is;
        count = λ s is. made.there (place.Count s) (λ at. let it : s ≡ x = (let both : place.Count s ≡ place.Count x = at in cc) in seen_unclaimed p i i x s q.text seen is it);
        meta = λ s is. made.there (place.Meta s) (λ at. let clash : place.Meta s ≡ place.Count x = at in cc);
        text = λ s k is. made.there (place.Text s k) (λ at. let clash : place.Text s k ≡ place.Count x = at in cc);
      }

      lost : (m' : Memory) → IsMade (step.TakeEntry x count) m m' → (goal : Goal) → KnowsStage m' p f i load passed q w (loses_with goal w.kept answer.Again)
      lost m' made Lookup = leaving_known m' p f i load passed q w w.kept answer.Again (seen.0, seen.1) (kept_stays m p.now m' p.now i q.seed q.text w.kept (same m' made) h.0.1)
      lost m' made Intern = leaving_known m' p f i load passed q w w.kept answer.Again (seen.0, seen.1) (kept_stays m p.now m' p.now i q.seed q.text w.kept (same m' made) h.0.1)
      lost m' made InternWait = ((seen.0, seen.1), kept_stays m p.now m' p.now i q.seed q.text w.kept (same m' made) h.0.1)

      goes : (m' : Memory) → IsMade (step.TakeEntry x count) m m' → (b : Bool)
          → KnowsStage m' (told p i (cond b (Some (what.Take q.text (handle_at x count))) None))
          (record f { chain = f.chain; holds = holds_after i (cond b (Some (what.Take q.text (handle_at x count))) None) f.holds }) i load passed q w
          (cond b (leaves_with w.kept (met Counted q.goal (handle_at x count))) (loses_with q.goal w.kept answer.Again))
      goes m' made true =
          let taken : Past = past_after p (by i (what.Take q.text (handle_at x count))) in
          leaving_known m' taken (record f { chain = f.chain; holds = holds_after i (Some (what.Take q.text (handle_at x count))) f.holds })
          i load passed q w w.kept (met Counted q.goal (handle_at x count))
          (seen.0, seen.1) (kept_stays m p.now m' p.now i q.seed q.text w.kept (same m' made) h.0.1)
      goes m' made false = lost m' made q.goal

  -- each stage of a walk at a node
  pub node_serves : (s : NodeStage) → HasSoundNode q.kind q.text s → KnowsCall m p f i load passed q w (stage.Node s) → Serves t m p f i load passed q (node_row q w s)
  node_serves (node.Meta x) has h = serves_meta x h
  node_serves (node.Text x at) has h = serves_text x at has h
  node_serves (node.Count x) has h = serves_count x h
  node_serves (node.Link x) has h = serves_link x h
  node_serves (node.Take x count) has h = serves_take x count has h
