-- What a walk has found out of its window, by each word that it finds.
use Rattle.std.proofs.Common.{◌≡◌, ◌≢◌, ℕ, ◌+◌, ◌<◌, ◌≤◌, ◌==◌, true, List, ◌++◌, length, Option, Some, None, is_some, refl, sym, ap, subst}
use Rattle.std.proofs.Common.{◌∙◌, inl, inr, arith}
use Rattle.marked_word.specs.Head.{is_locked, is_redirected, first_of}
use Rattle.marked_word.specs.Link.{node_of}
use Rattle.marked_word.specs.Meta.{meta_word}
use Rattle.text_words.specs.Words.{word_at}
use Rattle.intern_log.specs.declared.event.Event.{Event}
use Rattle.intern_log.specs.declared.event.Handle.{Handle}
use Rattle.intern_log.specs.declared.event.Kind.{Kind}
use Rattle.intern_log.specs.declared.event.Kind.TheVariants.{Counted, Weak}
use Rattle.intern_log.specs.TextMap.{TextMap}
use Rattle.intern_log.proofs.OneMore.{place_is}
use Rattle.atomic_step.specs.Count.{holds_of, handle_at}
use Rattle.atomic_step.specs.declared.answer.Answer.{Answer}
use Rattle.atomic_step.specs.declared.answer.Answer.TheVariants as answer
use Rattle.atomic_step.proofs.Choices.{where_it_is, either_way, not_equal}
use Rattle.call_machine.specs.declared.find.FindStage.{FindStage}
use Rattle.call_machine.specs.declared.find.FindStage.TheVariants as find
use Rattle.call_machine.specs.declared.find.Walk.{Walk}
use Rattle.call_machine.specs.declared.node.NodeStage.{NodeStage}
use Rattle.call_machine.specs.declared.node.NodeStage.TheVariants as node
use Rattle.call_machine.specs.declared.stage.Along.{Along}
use Rattle.call_machine.specs.declared.stage.Asked.{Asked}
use Rattle.call_machine.specs.declared.stage.CallStage.TheVariants as stage
use Rattle.call_machine.specs.declared.stage.Goal.{Goal}
use Rattle.call_machine.specs.declared.stage.Goal.TheVariants.{Lookup, Intern, InternWait}
use Rattle.call_machine.specs.Calls.{plan_at, next_at, found}
use Rattle.call_machine.specs.Insert.{inserts}
use Rattle.call_machine.specs.Leave.{tries_again, leaves_with, loses_with}
use Rattle.call_machine.specs.Node.{end_of, comes_to, compares_from, passes, met, matches}
use Rattle.call_machine.specs.Sought.{meta_of, has_word}
use Rattle.cht_core.specs.declared.table.Table.{Table}
use Rattle.cht_core.specs.Causes.{now_in, PlanSays, IsUnseen, loaded_at, IsRowIn}
use Rattle.cht_core.specs.CauseCalls.{Way, Walks, HasCount, IsWordOf, IsAbsent, IsTextLocked, IsAtHome, CountLost, LostBy, WalkEnds, CallEnds, HeadFound}
use Rattle.cht_core.specs.CauseCalls.{IsIntern, IsTried, CallCaused, HearsHead, CallHears}
use Rattle.cht_core.specs.Flow.{Flow}
use Rattle.cht_core.specs.Past.{Past, past_of}
use Rattle.cht_core.specs.Tidy.{IsTidy}
use Rattle.cht_core.specs.Windows.{Somewhere, IsTold}
use Rattle.cht_core.specs.WordSays.{SaysOfHead}
use Rattle.cht_core.proofs.Windows.{at_end, seen_before}
use Rattle.cht_core.proofs.CauseWords.{texts_are, missing, entry_seen, count_lost, created_at}

some_of : (o : Option ℕ) → is_some o ≡ true → (k : ℕ) × (o ≡ Some k)
some_of None is = absurd (cc)
some_of (Some k) is = (k, refl)

-- a head of the bucket of a text, which says that it is locked, says that the bucket is
pub home_locked : (t : Table) (f : Flow) (log : List Event) (text : List ℕ) (walk : Walk) (word : ℕ) → IsAtHome (now_in t log) f text walk →
    SaysOfHead (past_of t.shape.min_level log) f walk.row walk.bucket word →
    is_locked word ≡ true → IsTextLocked t text log
home_locked t f log text walk word at says locked =
    let owner = some_of ((now_in t log).lock walk.row walk.bucket) (sym (says at.0) ∙ locked) in
    (walk.row, at.1, (owner.0, ap ((now_in t log).lock walk.row) (sym at.2) ∙ owner.1))

module _ (t : Table) (i : ℕ) (way : Way) (seen window : List Event) (q : Asked) (walks : way ≡ Walks) where
  -- an answer of a walk is one of the call
  pub of_walk : (a : Answer) → WalkEnds t i q seen window a → CallEnds t i way q seen window a
  of_walk a h = subst (λ way. CallEnds t i way q seen window a) (sym walks) h

  -- leaving with an answer
  pub leaving : (load : ℕ) (w : Along) (kept : Option Handle) (a : Answer) → WalkEnds t i q seen window a → CallCaused t i way seen window load q w (leaves_with kept a)
  leaving load w None a h = of_walk a h
  leaving load w (Some k) a h = of_walk a h

  -- a count was lost: the walk gives up, or tries again
  pub losing : (load : ℕ) (w : Along) (kept : Option Handle) → q.kind ≡ Counted → CountLost i q.text seen window → CallCaused t i way seen window load q w (loses_with q.goal kept answer.Again)
  losing load w kept counted lost = go q.goal refl
    where
      its : (goal : Goal) → q.goal ≡ goal → LostBy goal q.kind t i q.text seen window → WalkEnds t i q seen window answer.Again
      its goal is h = subst (λ g. LostBy g q.kind t i q.text seen window) (sym is) h

      go : (goal : Goal) → q.goal ≡ goal → CallCaused t i way seen window load q w (loses_with goal kept answer.Again)
      go Lookup is = leaving load w kept answer.Again (its Lookup is (counted, lost))
      go Intern is = leaving load w kept answer.Again (its Intern is (inl (counted, lost)))
      go InternWait is = walks

  -- at the end of a chain without a match
  none_tried : (slots slot x : ℕ) → IsTried slots slot 0 x → ⊥
  none_tried slots slot x tried = elim tried [
    | inl before ↦ (let below : x < slot = before.0 in let up : slot ≤ x + 0 = before.1 in absurd (omega (arith, below, up)))
    | inr round ↦ (let below : x < slots = round.0 in let up : slot + slots ≤ x + 0 = round.1 in absurd (omega (arith, below, up)))
  ]

  inserting : (load : ℕ) (w : Along) (kept : Option Handle) (cursor : ℕ) → IsIntern q.goal → length seen ≤ load → Somewhere (IsRowIn t w.walk.row) seen window →
      Somewhere (IsAbsent q.text) seen window → CallCaused t i way seen window load q w (stage.Insert (inserts kept cursor))
  inserting load w None cursor intern began row absent = (walks, intern, began, absent, λ x tried. absurd (none_tried t.shape.slots cursor x tried), row)
  inserting load w (Some h) cursor intern began row absent = (walks, intern, began, row)

  -- a look-up misses; an intern answers that the bucket is locked, tries again or makes an entry
  ended : (load : ℕ) (w : Along) (kept : Option Handle) (cursor head : ℕ) → length seen ≤ load → Somewhere (IsRowIn t w.walk.row) seen window → Somewhere (IsAbsent q.text) seen window →
      (is_locked head ≡ true → Somewhere (IsTextLocked t q.text) seen window) → CallCaused t i way seen window load q w (end_of kept cursor head q.goal)
  ended load w kept cursor head began row absent locked = go q.goal refl
    where
      go : (goal : Goal) → q.goal ≡ goal → CallCaused t i way seen window load q w (end_of kept cursor head goal)
      go Lookup is = leaving load w kept answer.Miss absent
      go Intern is = where_it_is (λ s. CallCaused t i way seen window load q w s) (is_locked head) (leaves_with kept answer.Locked) (stage.Insert (inserts kept cursor))
          (λ held. leaving load w kept answer.Locked (locked held)) (λ free. inserting load w kept cursor (subst IsIntern (sym is) tt) began row absent)
      go InternWait is = where_it_is (λ s. CallCaused t i way seen window load q w s) (is_locked head) tries_again (stage.Insert (inserts kept cursor))
          (λ held. walks) (λ free. inserting load w kept cursor (subst IsIntern (sym is) tt) began row absent)

  -- the walk comes to a node, or to its end
  coming : (load : ℕ) (w : Along) (kept : Option Handle) (cursor : ℕ) (o : Option ℕ) → HeadFound t seen window load q.text w.walk → (o ≡ None → Somewhere (IsAbsent q.text) seen window) →
      CallCaused t i way seen window load q w (comes_to q (record w { kept = kept; cursor = cursor }) w.walk.head o)
  coming load w kept cursor None head absent = ended load w kept cursor w.walk.head head.began head.row (absent refl) head.locked
  coming load w kept cursor (Some x) head absent = (walks, head)

module _ (t : Table) (i : ℕ) (way : Way) (seen window : List Event) (f : Flow) (q : Asked) (walks : way ≡ Walks) (told : IsTold t (seen ++ window)) where
  abbrev Then : Past
  Then = past_of t.shape.min_level (seen ++ window)

  now_place : Then.now.place ≡ length (seen ++ window)
  now_place = place_is t.shape.min_level (seen ++ window)

  -- a head was loaded
  head_loaded : (w : Along) (word : ℕ) → SaysOfHead Then f w.walk.row w.walk.bucket word → HearsHead Then f q.text w.walk word →
      CallCaused t i way seen window Then.now.place q (record w { walk = record w.walk { head = word } }) (comes_to q w word (first_of word))
  head_loaded w word says hears =
      let began : length seen ≤ Then.now.place = seen_before seen window Then.now.place now_place in
      coming t i way seen window q walks Then.now.place (record w { walk = record w.walk { head = word } }) w.kept w.cursor (first_of word)
      (record { began = began; row = at_end seen window (IsRowIn t w.walk.row) hears.0.1; locked = λ held. at_end seen window (IsTextLocked t q.text) (home_locked t f (seen ++ window) q.text w.walk word hears.0 says held) })
      (λ end. missing t i seen window told q.text Then.now.place began (hears.1 end))

  -- finding the head, by a word that is found
  pub find_found : (load : ℕ) (w : Along) (s : FindStage) (word : ℕ) → PlanSays t Then f (plan_at q w (stage.Find s)) word → CallHears t Then f i load (seen ++ window) q w (stage.Find s) word →
      CallCaused t i way seen window (loaded_at (plan_at q w (stage.Find s)) Then.now.place load) q (next_at q w (stage.Find s) word).0 (next_at q w (stage.Find s) word).1
  find_found load w (find.Enter s) word says hears = walks
  find_found load w find.LoadLevel word says hears = walks
  find_found load w find.LoadHead word says hears =
      where_it_is (λ (o : Option FindStage). let at = found q w (record w.walk { head = word }, o) in CallCaused t i way seen window Then.now.place q at.0 at.1) (is_redirected word)
      (Some find.LoadNewLevel) None
      (λ redirected. walks) (λ plain. head_loaded w word says (hears plain))
  find_found load w find.LoadNewLevel word says hears = walks
  find_found load w find.LoadNewHead word says hears = head_loaded w word says hears

  comparing : (load : ℕ) (w : Along) (x at : ℕ) → HeadFound t seen window load q.text w.walk → CallCaused t i way seen window load q w (stage.Node (compares_from q.text x at))
  comparing load w x at h = either_way (λ n. CallCaused t i way seen window load q w (stage.Node n)) (has_word q.text at) (node.Text x at) (node.Count x) (walks, h) (walks, h)

  met_so : (kind : Kind) (goal : Goal) (h : Handle) → WalkEnds t i q seen window (met kind goal h)
  met_so kind Lookup h = tt
  met_so Counted Intern h = tt
  met_so Weak Intern h = tt
  met_so Counted InternWait h = tt
  met_so Weak InternWait h = tt

  leaves : (load : ℕ) (w : Along) (a : Answer) → WalkEnds t i q seen window a → CallCaused t i way seen window load q w (leaves_with w.kept a)
  leaves load w a h = leaving t i way seen window q walks load w w.kept a h

  module _ (tidy : IsTidy t (now_in t (seen ++ window))) (unseen : IsUnseen i window) where
    matching : (load : ℕ) (w : Along) (x word : ℕ) (kind : Kind) → q.kind ≡ kind → Somewhere (IsWordOf q.text (handle_at x word) word) seen window →
        CallCaused t i way seen window load q w (matches q w kind x word)
    matching load w x word Counted of is = (walks, is, of)
    matching load w x word Weak of is = leaves load w (met Weak q.goal (handle_at x word)) (met_so Weak q.goal (handle_at x word))

    -- at a node, by a word that is found
    pub node_found : (load : ℕ) (w : Along) (s : NodeStage) (word : ℕ) → CallCaused t i way seen window load q w (stage.Node s) → PlanSays t Then f (plan_at q w (stage.Node s)) word →
        CallHears t Then f i load (seen ++ window) q w (stage.Node s) word →
        CallCaused t i way seen window (loaded_at (plan_at q w (stage.Node s)) Then.now.place load) q (next_at q w (stage.Node s) word).0 (next_at q w (stage.Node s) word).1
    node_found load w (node.Meta x) word h says hears =
        either_way (λ n. CallCaused t i way seen window load q w (stage.Node n)) (word == meta_word (meta_of q.seed q.text)) (compares_from q.text x 0) (node.Link x) (comparing load w x 0 h.1) h
    node_found load w (node.Text x at) word h says hears =
        either_way (λ n. CallCaused t i way seen window load q w (stage.Node n)) (word == word_at q.text at) (compares_from q.text x (at + 1)) (node.Link x) (comparing load w x (at + 1) h.1) h
    node_found load w (node.Count x) word h says hears =
        where_it_is (λ s. CallCaused t i way seen window load q w s) (holds_of word == 0) (stage.Node (node.Link x)) (matches q w q.kind x word) (λ none. h)
        (λ some. matching load w x word q.kind refl (at_end seen window (IsWordOf q.text (handle_at x word) word) (its (not_equal (holds_of word) 0 some))))
      where
        its : holds_of word ≢ 0 → IsWordOf q.text (handle_at x word) word (seen ++ window)
        its some =
            let (count, has, is) = entry_seen t Then tidy i x word q.text hears says (omega (arith, some)) in
            (count, subst (λ (m : TextMap). HasCount m q.text (handle_at x word) count) (texts_are t i seen window told (seen ++ window)) has, is)
    node_found load w (node.Link x) word h says hears =
        coming t i way seen window q walks load (record w { walk = passes w.walk }) w.kept w.cursor (node_of word) (record { began = h.1.began; row = h.1.row; locked = h.1.locked })
        (λ end. missing t i seen window told q.text load h.1.began (hears end))
    node_found load w (node.Take x count) word h says hears =
        where_it_is (λ s. CallCaused t i way seen window load q w s) (word == count) (leaves_with w.kept (met Counted q.goal (handle_at x count))) (loses_with q.goal w.kept answer.Again)
        (λ same. leaves load w (met Counted q.goal (handle_at x count)) (met_so Counted q.goal (handle_at x count)))
        (λ other. losing t i way seen window q walks load w w.kept h.2 (
          handle_at x count,
          count_lost t i seen window told tidy q.text (handle_at x count) count word unseen h.1 says (not_equal word count other),
          created_at t i seen window told q.text (handle_at x count) count h.1,
        ))
