-- What a stage of a call is to do: the table backs its step, and once the step was made the call knows what its next stage needs.
use Rattle.std.proofs.Common.{◌≡◌, ℕ, Bool, true, false, cond, List, [], length, Option, Some, None, IfSome, refl, sym, ap, subst, ◌∙◌}
use Rattle.text_words.specs.Hash.{hash_of}
use Rattle.marked_word.specs.Head.{is_locked, is_redirected, first_of}
use Rattle.table_shape.specs.declared.place.Place.TheVariants as place
use Rattle.intern_log.specs.declared.event.Handle.{Handle}
use Rattle.intern_log.specs.Now.{Now, Claimed}
use Rattle.atomic_step.specs.declared.answer.Answer.{Answer}
use Rattle.atomic_step.specs.declared.answer.Answer.TheVariants as answer
use Rattle.atomic_step.specs.Count.{generation_of}
use Rattle.atomic_step.specs.Event.{event_of}
use Rattle.atomic_step.specs.Turn.{Row}
use Rattle.call_machine.specs.declared.find.Walk.{Walk}
use Rattle.call_machine.specs.declared.stage.Along.{Along}
use Rattle.call_machine.specs.declared.stage.Asked.{Asked}
use Rattle.call_machine.specs.declared.stage.CallStage.{CallStage}
use Rattle.call_machine.specs.declared.stage.CallStage.TheVariants as stage
use Rattle.call_machine.specs.declared.stage.Goal.{Goal}
use Rattle.call_machine.specs.declared.stage.Goal.TheVariants.{Lookup, Intern, InternWait}
use Rattle.call_machine.specs.Insert.{inserts}
use Rattle.call_machine.specs.Leave.{leaves_with, tries_again}
use Rattle.call_machine.specs.Node.{comes_to, end_of}
use Rattle.cht_core.specs.declared.table.Table.{Table}
use Rattle.cht_core.specs.Backs.{Backs, Goes}
use Rattle.cht_core.specs.Flow.{Flow, flow_after}
use Rattle.cht_core.specs.Stage.{bucket_in}
use Rattle.cht_core.specs.KnowsCall.{IsKept, KnowsKept, KnowsStage, KnowsCall, AtEnd}
use Rattle.cht_core.specs.Memory.{Memory, IsMade, found, links}
use Rattle.cht_core.specs.Past.{Past, told}
use Rattle.cht_core.specs.Search.{IsInside, Searched, Walking}
use Rattle.cht_core.specs.View.{load_after, passed_after}
use Rattle.cht_core.proofs.Walks.{none_ahead}

-- the row of a stage is one that the table backs, and leads to a stage that is known
pub record Serves (t : Table) (m : Memory) (p : Past) (f : Flow) (i load : ℕ) (passed : List ℕ) (q : Asked) (does : Row (Along × CallStage)) : Type 0 where
  pub backs : Backs t m p f i q.text does.step
  pub leads : (m' : Memory) → IsMade does.step m m' → Goes t m p f i q.text does.step m' → KnowsCall m' (told p i (event_of q.text does.step (found does.step m))) (flow_after p.now f i q.text does.step (found does.step m)) i
      (load_after does.step p.now.place load) (passed_after does.step passed) q (does.next (found does.step m)).0 (does.next (found does.step m)).1

-- the words of a slot that the seat has claimed are the same
pub record SameClaimed (m : Memory) (n : Now) (m' : Memory) (n' : Now) (i : ℕ) : Type 0 where
  pub claimed : (s : ℕ) → n.slot s ≡ Claimed i → n'.slot s ≡ Claimed i
  pub count : (s : ℕ) → n.slot s ≡ Claimed i → m' (place.Count s) ≡ m (place.Count s)
  pub meta : (s : ℕ) → n.slot s ≡ Claimed i → m' (place.Meta s) ≡ m (place.Meta s)
  pub text : (s at : ℕ) → n.slot s ≡ Claimed i → m' (place.Text s at) ≡ m (place.Text s at)

-- a slot that a call keeps is kept by a step that leaves its words
pub kept_stays : (m : Memory) (n : Now) (m' : Memory) (n' : Now) (i seed : ℕ) (text : List ℕ) (kept : Option Handle) → SameClaimed m n m' n' i
    → IfSome kept (IsKept m n i seed text) → IfSome kept (IsKept m' n' i seed text)
kept_stays m n m' n' i seed text None z h = tt
kept_stays m n m' n' i seed text (Some k) z h =
    let mine : n.slot k.slot ≡ Claimed i = h.0.0 in (
      (z.claimed k.slot mine, ap generation_of (z.count k.slot mine) ∙ h.0.1),
      (z.meta k.slot mine ∙ h.1.0, λ at less within. z.text k.slot at mine ∙ h.1.1 at less within),
      z.count k.slot mine ∙ h.2,
    )

module _ (m : Memory) (p : Past) (f : Flow) (i load : ℕ) (passed : List ℕ) (q : Asked) (w : Along) where
  -- who leaves with an answer is inside, and gives back the slot that is kept
  pub leaving_known : (kept : Option Handle) (a : Answer) → IsInside p.now i → IfSome kept (IsKept m p.now i q.seed q.text)
      → KnowsStage m p f i load passed q (record w { kept = kept }) (leaves_with kept a)
  leaving_known None a inside h = (inside, tt)
  leaving_known (Some k) a inside h = (inside, h.0)

  at_end : (kept : Option Handle) → AtEnd p.now f i load passed q w → AtEnd p.now f i load passed q (record w { kept = kept })
  at_end kept h = record { searched = h.searched; bucket = h.bucket; open_head = h.open_head; plain = h.plain }

  -- who makes an entry has looked for its text to the end of its chain
  inserting_known : (kept : Option Handle) → AtEnd p.now f i load passed q w → IfSome kept (IsKept m p.now i q.seed q.text)
      → KnowsStage m p f i load passed q (record w { kept = kept }) (stage.Insert (inserts kept w.cursor))
  inserting_known None at h = at_end None at
  inserting_known (Some k) at h = (at_end (Some k) at, h.0, h.1, (refl, h.2))

  -- at the end of its chain a call leaves, tries again or makes an entry
  pub end_known : (goal : Goal) → IsInside p.now i → Searched p.now f i q.text (hash_of q.seed q.text) w.walk.row load (first_of w.walk.head) passed []
      → w.walk.bucket ≡ bucket_in w.walk.row (hash_of q.seed q.text) → is_redirected w.walk.head ≡ false → KnowsKept m p.now i q w
      → KnowsStage m p f i load passed q w (end_of w.kept w.cursor w.walk.head goal)
  end_known goal inside searched bucket plain kept = go goal (is_locked w.walk.head) refl
    where
      at : is_locked w.walk.head ≡ false → AtEnd p.now f i load passed q w
      at open_head = record { searched = searched; bucket = bucket; open_head = open_head; plain = plain }

      go : (g : Goal) (b : Bool) → is_locked w.walk.head ≡ b → KnowsStage m p f i load passed q w (end_of w.kept w.cursor w.walk.head g)
      go Lookup b is = leaving_known w.kept answer.Miss inside kept
      go Intern true is = subst (λ (b : Bool). KnowsStage m p f i load passed q w (cond b (leaves_with w.kept answer.Locked) (stage.Insert (inserts w.kept w.cursor)))) (sym is)
          (leaving_known w.kept answer.Locked inside kept)
      go Intern false is = subst (λ (b : Bool). KnowsStage m p f i load passed q w (cond b (leaves_with w.kept answer.Locked) (stage.Insert (inserts w.kept w.cursor)))) (sym is)
          (inserting_known w.kept (at is) kept)
      go InternWait true is = subst (λ (b : Bool). KnowsStage m p f i load passed q w (cond b tries_again (stage.Insert (inserts w.kept w.cursor)))) (sym is) (inside, kept)
      go InternWait false is = subst (λ (b : Bool). KnowsStage m p f i load passed q w (cond b tries_again (stage.Insert (inserts w.kept w.cursor)))) (sym is)
          (inserting_known w.kept (at is) kept)

-- a walk that goes on to a node, or is at its end, is known there
pub walk_known : (m : Memory) (p : Past) (f : Flow) (i load : ℕ) (passed : List ℕ) (q : Asked) (w : Along) (walk : Walk) (node : Option ℕ)
    → Walking m p.now f i q.text (hash_of q.seed q.text) walk.row load (first_of walk.head) passed node → walk.bucket ≡ bucket_in walk.row (hash_of q.seed q.text)
    → walk.passed ≡ length passed → is_redirected walk.head ≡ false → KnowsKept m p.now i q w
    → KnowsStage m p f i load passed q (record w { walk = walk }) (comes_to q w walk.head node)
walk_known m p f i load passed q w walk (Some s) walking bucket counted plain kept = (record { walking = walking; bucket = bucket; counted = counted; plain = plain }, kept)
walk_known m p f i load passed q w walk None walking bucket counted plain kept =
    end_known m p f i load passed q (record w { walk = walk }) q.goal (walking.searched.section, walking.searched.inside)
    (subst (λ (nodes : List ℕ). Searched p.now f i q.text (hash_of q.seed q.text) walk.row load (first_of walk.head) passed nodes)
    (none_ahead (links m) walking.ahead walking.path) walking.searched)
    bucket plain kept
