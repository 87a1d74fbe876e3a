-- What a walk that has answered comes to.
use Rattle.std.proofs.Common.{◌≡◌, ℕ, true, List, [], ◌∷◌, inl, inr, refl, sym, ap, subst, ◌∙◌, arith}
use Rattle.std.proofs.lemmas.List.{append-nil}
use Rattle.intern_log.specs.declared.event.Handle.{Handle}
use Rattle.intern_log.specs.declared.event.Kind.{Kind}
use Rattle.intern_log.specs.declared.event.Kind.TheVariants.{Counted, Weak}
use Rattle.intern_log.specs.declared.event.What.{What}
use Rattle.intern_log.specs.Now.{opening}
use Rattle.intern_log.specs.TextMap.{entry_of}
use Rattle.intern_log.proofs.LawfulLaws.{texts-now_after}
use Rattle.atomic_step.specs.declared.answer.Answer.{Answer}
use Rattle.atomic_step.specs.declared.answer.Answer.TheVariants as answer
use Rattle.call_machine.specs.declared.call.Call.{Call}
use Rattle.call_machine.specs.declared.stage.Along.{Along}
use Rattle.call_machine.specs.declared.stage.Asked.{Asked}
use Rattle.call_machine.specs.declared.stage.CallStage.TheVariants as stage
use Rattle.call_machine.specs.declared.stage.Goal.{Goal}
use Rattle.call_machine.specs.declared.stage.Goal.TheVariants.{Lookup, Intern}
use Rattle.call_machine.specs.declared.stage.Request.{Request}
use Rattle.call_machine.specs.CallEvents.{stands_for, hit_event}
use Rattle.call_machine.specs.Sought.{asked_of, is_too_long}
use Rattle.cht_core.specs.CauseCalls.{Walks, Did, CallEnds, IsAbsent}
use Rattle.cht_core.specs.Caused.{way_of}
use Rattle.cht_core.specs.Past.{past_of}
use Rattle.cht_core.specs.Windows.{Somewhere}
use Rattle.cht_core.proofs.CauseRests.{too_long_is_absent}
use Rattle.cht_run.specs.declared.intern.TryIntern.{TryIntern}
use Rattle.cht_run.specs.declared.intern.TryIntern.TheVariants as try_intern
use Rattle.cht_run.specs.declared.intern.TryInternWeak.{TryInternWeak}
use Rattle.cht_run.specs.declared.intern.TryInternWeak.TheVariants as weak
use Rattle.cht_run.specs.declared.lookup.TryFind.{TryFind}
use Rattle.cht_run.specs.declared.lookup.TryFind.TheVariants as try_find
use Rattle.cht_run.specs.declared.lookup.TryLookup.{TryLookup}
use Rattle.cht_run.specs.declared.lookup.TryLookup.TheVariants as try_lookup
use Rattle.cht_run.specs.declared.seat.Seat.{Seat}
use Rattle.cht_run.specs.declared.sight.Origin.{Origin}
use Rattle.cht_run.specs.declared.table.Cht.{Cht}
use Rattle.cht_run.specs.Answers.{AreOfWalk, LooksUp, WhyLooksUp, Finds, WhyFinds}
use Rattle.cht_run.specs.Calls.{at_stage, At}
use Rattle.cht_run.specs.Ended.{Ended}
use Rattle.cht_run.specs.History.{log_of}
use Rattle.cht_run.specs.Interns.{Interns, WhyInterns, InternsWeak, WhyInternsWeak}
use Rattle.cht_run.specs.Looks.{Looked}
use Rattle.cht_run.specs.Seats.{sight, history, seen, IsOf}
use Rattle.cht_run.specs.Walked.{asked_for, DidWalk, Walked}
use Rattle.cht_run.proofs.Ended.{went_ended, renamed}
use Rattle.cht_run.proofs.Goes.{went_answered}
use Rattle.cht_run.proofs.Looking.{log_is, looked_ended}

pub walked : (cht : Cht) (g : Goal) (text : List ℕ) (c : Call) (old new : Seat) (r : Request) (w : Along) (a : Answer) → asked_of r ≡ asked_for cht old g text → way_of c ≡ Walks → IsOf cht old → At cht (sight old) c r new.raw w (stage.Answered a) →
    Walked cht g text old new a
walked cht g text c old new r w a asked way of at =
    let went = at.stands in
    let m = at_stage (sight old) (asked_of r) w (stage.Answered a) in
    let cause = went_answered (sight old) c (sight new) m a went refl in
    let did : Did old.number (log_of went.window) (asked_for cht old g text) a = subst (λ i. Did i (log_of went.window) (asked_for cht old g text) a) (sym old.named) (subst (λ q. Did (sight old).number (log_of went.window) q a) asked cause.0) in
    let ends : CallEnds cht.origin.table old.number Walks (asked_for cht old g text) (seen old) (log_of went.window) a =
    subst (λ i. CallEnds cht.origin.table i Walks (asked_for cht old g text) (seen old) (log_of went.window) a) (sym old.named)
    (subst (λ (o : Origin). CallEnds o.table (sight old).number Walks (asked_for cht old g text) (seen old) (log_of went.window) a) of.origin
    (subst (λ x. CallEnds (sight old).origin.table (sight old).number x (asked_for cht old g text) (seen old) (log_of went.window) a) way
    (subst (λ q. CallEnds (sight old).origin.table (sight old).number (way_of c) q (seen old) (log_of went.window) a) asked cause.1))) in
    record {
      ended = went_ended cht old new c m went of.origin (DidWalk (asked_for cht old g text) a) (λ seen window. CallEnds cht.origin.table old.number Walks (asked_for cht old g text) seen window a)
          (record { shown = did.shown; sections = did.sections; slots = did.slots; claims = did.claims; calls = did.calls }, did.none) ends;
      ledger = went.ledger;
    }

-- WHAT ITS ANSWER IS TO A CALLER

-- no event is a walk by which callers see nothing
pub no_walk : AreOfWalk [] []
no_walk = record { shown = refl; sections = refl; slots = refl; claims = omega arith; calls = tt }

-- a hit in a table of a kind
hit_walk : (kind : Kind) (q : Asked) (h : Handle) (events : List What) → q.kind ≡ kind → AreOfWalk (stands_for q (answer.Hit h)) events → AreOfWalk (hit_event kind q.text h ∷ []) events
hit_walk kind q h events is walk = subst (λ k. AreOfWalk (hit_event k q.text h ∷ []) events) is walk

module _ (cht : Cht) (text : List ℕ) (old new : Seat) where
  abbrev pub lookup_answer : TryLookup → Answer
  lookup_answer (try_lookup.Hit h) = answer.Hit h
  lookup_answer try_lookup.Miss = answer.Miss
  lookup_answer try_lookup.Again = answer.Again

  pub looked_up : cht.origin.table.kind ≡ Counted → (r : TryLookup) → Walked cht Lookup text old new (lookup_answer r) → Ended cht.origin.table old new (LooksUp text r) (WhyLooksUp old.number text r)
  looked_up is (try_lookup.Hit h) w =
      renamed (LooksUp text (try_lookup.Hit h)) (WhyLooksUp old.number text (try_lookup.Hit h)) (λ events did. hit_walk Counted (asked_for cht old Lookup text) h events is did.0) (λ seen window why. tt) w.ended
  looked_up is try_lookup.Miss w = renamed (LooksUp text try_lookup.Miss) (WhyLooksUp old.number text try_lookup.Miss) (λ events did. did.0) (λ seen window why. why) w.ended
  looked_up is try_lookup.Again w = renamed (LooksUp text try_lookup.Again) (WhyLooksUp old.number text try_lookup.Again) (λ events did. did.0) (λ seen window why. why.1) w.ended

  abbrev pub find_answer : TryFind → Answer
  find_answer (try_find.Hit h) = answer.Hit h
  find_answer try_find.Miss = answer.Miss

  pub found : cht.origin.table.kind ≡ Weak → (r : TryFind) → Walked cht Lookup text old new (find_answer r) → Ended cht.origin.table old new (Finds text r) (WhyFinds text r)
  found is (try_find.Hit h) w = renamed (Finds text (try_find.Hit h)) (WhyFinds text (try_find.Hit h)) (λ events did. hit_walk Weak (asked_for cht old Lookup text) h events is did.0) (λ seen window why. tt) w.ended
  found is try_find.Miss w = renamed (Finds text try_find.Miss) (WhyFinds text try_find.Miss) (λ events did. did.0) (λ seen window why. why) w.ended

  abbrev pub intern_answer : TryIntern → Answer
  intern_answer try_intern.TooLong = answer.TooLong
  intern_answer (try_intern.Taken h) = answer.Taken h
  intern_answer try_intern.Again = answer.Again
  intern_answer try_intern.Locked = answer.Locked
  intern_answer try_intern.NoSlot = answer.NoSlot
  intern_answer (try_intern.Created h) = answer.Created h

  -- one that is too long makes no walk
  abbrev IsShorter : TryIntern → Type 0
  IsShorter try_intern.TooLong = ⊥
  IsShorter _ = Unit {0}

  pub interned : (r : TryIntern) → IsShorter r → Walked cht Intern text old new (intern_answer r) → Ended cht.origin.table old new (Interns text r) (WhyInterns cht.origin.table old.number text r)
  interned try_intern.TooLong short w = absurd short
  interned (try_intern.Taken h) short w = renamed (Interns text (try_intern.Taken h)) (WhyInterns cht.origin.table old.number text (try_intern.Taken h)) (λ events did. did.0) (λ seen window why. tt) w.ended
  interned try_intern.Again short w =
      renamed (Interns text try_intern.Again) (WhyInterns cht.origin.table old.number text try_intern.Again) (λ events did. did.0)
      (λ seen window why. elim why [ inl count ↦ inl count.1 | inr head ↦ inr head ]) w.ended
  interned try_intern.Locked short w = renamed (Interns text try_intern.Locked) (WhyInterns cht.origin.table old.number text try_intern.Locked) (λ events did. did.0) (λ seen window why. why) w.ended
  interned try_intern.NoSlot short w =
      renamed (Interns text try_intern.NoSlot) (WhyInterns cht.origin.table old.number text try_intern.NoSlot) (λ events did. record { walk = did.0; none = did.1 }) (λ seen window why. why) w.ended
  interned (try_intern.Created h) short w = renamed (Interns text (try_intern.Created h)) (WhyInterns cht.origin.table old.number text (try_intern.Created h)) (λ events did. did.0) (λ seen window why. tt) w.ended

  abbrev pub intern_weak_answer : TryInternWeak → Answer
  intern_weak_answer weak.TooLong = answer.TooLong
  intern_weak_answer (weak.Found h) = answer.Found h
  intern_weak_answer weak.Again = answer.Again
  intern_weak_answer weak.Locked = answer.Locked
  intern_weak_answer weak.NoSlot = answer.NoSlot
  intern_weak_answer (weak.Created h) = answer.Created h

  abbrev IsShorterWeak : TryInternWeak → Type 0
  IsShorterWeak weak.TooLong = ⊥
  IsShorterWeak _ = Unit {0}

  pub interned_weak : cht.origin.table.kind ≡ Weak → (r : TryInternWeak) → IsShorterWeak r → Walked cht Intern text old new (intern_weak_answer r) →
      Ended cht.origin.table old new (InternsWeak text r) (WhyInternsWeak cht.origin.table old.number text r)
  interned_weak is weak.TooLong short w = absurd short
  interned_weak is (weak.Found h) short w = renamed (InternsWeak text (weak.Found h)) (WhyInternsWeak cht.origin.table old.number text (weak.Found h)) (λ events did. did.0) (λ seen window why. tt) w.ended
  interned_weak is weak.Again short w =
      renamed (InternsWeak text weak.Again) (WhyInternsWeak cht.origin.table old.number text weak.Again) (λ events did. did.0)
      (λ seen window why. elim why [ inl count ↦ (let clash : Counted ≡ Weak = sym count.0 ∙ is in absurd (cc)) | inr head ↦ head ]) w.ended
  interned_weak is weak.Locked short w = renamed (InternsWeak text weak.Locked) (WhyInternsWeak cht.origin.table old.number text weak.Locked) (λ events did. did.0) (λ seen window why. why) w.ended
  interned_weak is weak.NoSlot short w =
      renamed (InternsWeak text weak.NoSlot) (WhyInternsWeak cht.origin.table old.number text weak.NoSlot) (λ events did. record { walk = did.0; none = did.1 }) (λ seen window why. why) w.ended
  interned_weak is (weak.Created h) short w = renamed (InternsWeak text (weak.Created h)) (WhyInternsWeak cht.origin.table old.number text (weak.Created h)) (λ events did. did.0) (λ seen window why. tt) w.ended

-- A text that no slot has room for has no entry, as a seat sees that loads a word.
pub too_long_since : (cht : Cht) (old new : Seat) (index word : ℕ) (text : List ℕ) → is_too_long cht.origin.table.shape text ≡ true → Looked cht.origin index (sight old) word (sight new) → Ended cht.origin.table old new (AreOfWalk []) (λ seen window. Somewhere (IsAbsent text) seen window)
too_long_since cht old new index word text long looked = looked_ended cht.origin old new index word looked (AreOfWalk []) (λ seen window. Somewhere (IsAbsent text) seen window) no_walk (
  log_of looked.between,
  [],
  sym (append-nil (log_of looked.between)),
  subst (IsAbsent text) (log_is cht.origin old new index word looked)
      (sym (ap (λ m. entry_of m text) (texts-now_after (opening cht.origin.table.shape.min_level) (log_of (history new))))
      ∙ too_long_is_absent cht.origin.table _ (past_of cht.origin.table.shape.min_level (log_of (history new))) looked.inv.flow text looked.inv.table long),
)
