-- Where a poll of a clean has answered its work rests; a call begins with nothing known of a head; and a text that is too long has no entry.
use Rattle.std.proofs.Common.{◌≡◌, ℕ, ◌+◌, ◌*◌, ◌^◌, ◌/◌, ◌≤◌, ◌==◌, min, nat_lt, true, if◌then◌else◌, List, [], ◌∷◌, length, Option, Some, None}
use Rattle.std.proofs.Common.{refl, arith}
use Rattle.std.specs.Prelude.{IfSome}
use Rattle.std.proofs.lemmas.Bool.Decides.{nat_tests}
use Rattle.marked_word.specs.Head.{is_locked, first_of}
use Rattle.section_core.specs.Words.{waits_for}
use Rattle.table_shape.specs.declared.shape.Shape.{Shape}
use Rattle.intern_log.specs.declared.event.Entry.{Entry}
use Rattle.intern_log.specs.declared.event.Event.{Event}
use Rattle.intern_log.specs.TextMap.{entry_of}
use Rattle.atomic_step.specs.declared.answer.Answer.{Answer}
use Rattle.atomic_step.specs.Turn.{next_in}
use Rattle.atomic_step.proofs.Choices.{either_way}
use Rattle.call_machine.specs.declared.begin.Left.{Left}
use Rattle.call_machine.specs.declared.begin.Left.TheVariants as left
use Rattle.call_machine.specs.declared.call.Call.{Call}
use Rattle.call_machine.specs.declared.call.Call.TheVariants as call
use Rattle.call_machine.specs.declared.caller.Caller.{Caller}
use Rattle.call_machine.specs.declared.clean.CleanAlong.{CleanAlong}
use Rattle.call_machine.specs.declared.clean.CleanStage.{CleanStage}
use Rattle.call_machine.specs.declared.clean.CleanStage.TheVariants as clean
use Rattle.call_machine.specs.declared.clean.Freeing.{Freeing}
use Rattle.call_machine.specs.declared.clean.Freeing.TheVariants as freeing
use Rattle.call_machine.specs.declared.enter.EnterStage.TheVariants.{LoadCounter}
use Rattle.call_machine.specs.declared.find.FindStage.TheVariants as find
use Rattle.call_machine.specs.declared.grace.Grace.{Grace}
use Rattle.call_machine.specs.declared.grace.GraceStage.TheVariants as grace
use Rattle.call_machine.specs.declared.grace.Gracing.{Gracing}
use Rattle.call_machine.specs.declared.grace.Gracing.TheVariants as gracing
use Rattle.call_machine.specs.declared.lock.Locking.{Locking}
use Rattle.call_machine.specs.declared.lock.Locking.TheVariants as locking
use Rattle.call_machine.specs.declared.lock.LockStage.TheVariants as lock
use Rattle.call_machine.specs.declared.machine.Own.{Own}
use Rattle.call_machine.specs.declared.pass.FreeStage.{FreeStage}
use Rattle.call_machine.specs.declared.pass.Waiting.{Waiting}
use Rattle.call_machine.specs.declared.stage.Calling.{Calling}
use Rattle.call_machine.specs.declared.stage.CallStage.TheVariants as stage
use Rattle.call_machine.specs.declared.stage.Goal.{Goal}
use Rattle.call_machine.specs.declared.stage.Goal.TheVariants as goals
use Rattle.call_machine.specs.declared.work.Work.{Work}
use Rattle.call_machine.specs.declared.work.Work.TheVariants as work
use Rattle.call_machine.specs.BeginCall as calls
use Rattle.call_machine.specs.Clean.{Went, goes, waits_at, raises, locks_on, counts_pass, ends, next_bucket, graces_on, frees_on, clean_row, resumed}
use Rattle.call_machine.specs.Grace.{held_back, counts_grace}
use Rattle.call_machine.specs.Machine.{caller_of, starts, started, begun_grace_poll, begun_work_poll}
use Rattle.call_machine.specs.Pass.{free_row}
use Rattle.call_machine.specs.Poll.{poll_turn}
use Rattle.call_machine.specs.Resize as resizes
use Rattle.call_machine.specs.Sought.{is_too_long}
use Rattle.call_machine.specs.Work.{begun_work, resumes}
use Rattle.cht_core.specs.declared.table.Table.{Table}
use Rattle.cht_core.specs.Causes.{IsRestingAt, IsResting, RestsAt, Rests}
use Rattle.cht_core.specs.Flow.{Flow}
use Rattle.cht_core.specs.HeadKept.{WalkHeaded, CleanHeaded, Headed}
use Rattle.cht_core.specs.Memory.{Memory}
use Rattle.cht_core.specs.Past.{Past}
use Rattle.cht_core.specs.TableState.{IsTable}
use Rattle.cht_core.proofs.CauseAways.{away_headed}
use Rattle.cht_core.proofs.ResizeTurns.{away_so, resize_rests}

-- RESTING WORKS

abbrev Came : Went → Type 0
Came at = RestsAt at.1 at.2

so : (s : CleanStage) (a : Option Answer) → IsRestingAt s → RestsAt s a
so s None is = tt
so s (Some a) is = is

raised_on : (w : CleanAlong) (which : Freeing) → Came (raises w which)
raised_on w which = so (clean.Grace which grace.RaiseCounter) (held_back w.grace.raised) tt

ended : (w : CleanAlong) (xs : List Waiting) → Came (ends w xs)
ended w [] = tt
ended w (x ∷ xs) = raised_on w freeing.Last

next_on : (w : CleanAlong) → Came (next_bucket w)
next_on w =
    either_way Came (length w.cleaning.waiting.items == 256) (raises (counts_pass w) freeing.Again)
    (if nat_lt (w.cleaning.bucket + 1) (2 ^ w.cleaning.row) then goes (record w { cleaning = record w.cleaning { bucket = w.cleaning.bucket + 1 }; full_passes = 0 })
    (clean.Lock lock.LoadHead) else ends w w.cleaning.waiting.items)
    (raised_on (counts_pass w) freeing.Again)
    (either_way Came (nat_lt (w.cleaning.bucket + 1) (2 ^ w.cleaning.row))
    (goes (record w { cleaning = record w.cleaning { bucket = w.cleaning.bucket + 1 }; full_passes = 0 }) (clean.Lock lock.LoadHead))
    (ends w w.cleaning.waiting.items) tt (ended w w.cleaning.waiting.items))

freed : (shape : Shape) (w : CleanAlong) (which : Freeing) (s : Option FreeStage) → Came (frees_on shape w which s)
freed shape w freeing.Again None = either_way Came (nat_lt (shape.slots / 256) w.full_passes) (waits_at w) (goes w (clean.Lock lock.LoadHead)) tt tt
freed shape w freeing.Last None = tt
freed shape w freeing.Again (Some s) = tt
freed shape w freeing.Last (Some s) = tt

locked : (w : CleanAlong) (l : Locking) → Came (locks_on w l)
locked w (locking.Goes s) = tt
locked w locking.Waits = tt
locked w (locking.Locked first) = tt

graced : (w : CleanAlong) (which : Freeing) (g : Gracing) → Came (graces_on w which g)
graced w which gracing.Goes = tt
graced w which gracing.Waits = tt
graced w which gracing.Over = tt

clean_rests : (shape : Shape) (w : CleanAlong) (s : CleanStage) (word : ℕ) → Came ((clean_row shape w s).next word)
clean_rests shape w clean.LoadLevel word = tt
clean_rests shape w (clean.Lock lock.LoadHead) word = locked w (if is_locked word then locking.Waits else locking.Goes (lock.LockHead word))
clean_rests shape w (clean.Lock (lock.LockHead head)) word = locked w (if word == head then locking.Locked (first_of word) else locking.Waits)
clean_rests shape w (clean.Pass s) word = tt
clean_rests shape w clean.UnlockHead word = next_on w
clean_rests shape w (clean.Grace which grace.RaiseCounter) word = tt
clean_rests shape w (clean.Grace which grace.LoadSection) word =
    either_way (λ (at : Grace × Gracing). Came (graces_on (record w { grace = at.0; graces = counts_grace grace.LoadSection w.graces }) which at.1)) (waits_for w.grace.raised word)
    (w.grace, gracing.Waits) (if w.grace.next + 1 == shape.seats then (w.grace, gracing.Over) else (record w.grace { next = w.grace.next + 1 }, gracing.Goes)) tt
    (either_way (λ (at : Grace × Gracing). Came (graces_on (record w { grace = at.0; graces = counts_grace grace.LoadSection w.graces }) which at.1)) (w.grace.next + 1 == shape.seats)
    (w.grace, gracing.Over) (record w.grace { next = w.grace.next + 1 }, gracing.Goes) tt tt)
clean_rests shape w (clean.Free which s) word = let came = (free_row w.cleaning s).next word in freed shape (record w { cleaning = came.0 }) which came.1
clean_rests shape w clean.GiveResizeLock word = tt

-- a poll that begins with a resting work and has answered leaves a resting work, and so does each of its steps
pub poll_rests : (caller : Caller) (w : Work) (a : Option Answer) (word : ℕ) → Rests w a → Rests (next_in (w, a) (poll_turn caller (w, a)) word).0 (next_in (w, a) (poll_turn caller (w, a)) word).1
poll_rests caller (work.Clean c) None word h = clean_rests caller.shape c.along c.stage word
poll_rests caller (work.Clean c) (Some a) word h = h
poll_rests caller (work.Resize r) None word h = resize_rests caller.shape r.direction r.along r.stage word
poll_rests caller (work.Resize r) (Some a) word h = h

-- a work that was begun rests
pub begun_rests : (shape : Shape) (l : Left) → IfSome (begun_work shape l) IsResting
begun_rests shape left.Nothing = tt
begun_rests shape left.Clean = tt
begun_rests shape (left.Resize d level) = tt
begun_rests shape (left.Grace g) = tt

pub poll_begins_resting : (w : Work) → IsResting w → Rests (resumes w).0 (resumes w).1
poll_begins_resting (work.Clean c) rests = so c.stage (resumed c.along c.stage) rests
poll_begins_resting (work.Resize r) rests = away_so r.stage (resizes.resumed r.along r.stage) rests

-- A CALL BEGINS WITH NOTHING KNOWN OF A HEAD

module _ (t : Table) (m : Memory) (i load : ℕ) (log : List Event) where
  walk_headed : (caller : Caller) (goal : Goal) (text : List ℕ) → (let c = calls.begun_walk caller goal text in WalkHeaded t m i load log c.asked.text c.along.walk c.stage)
  walk_headed caller goal text =
      either_way (λ (c : Calling). WalkHeaded t m i load log c.asked.text c.along.walk c.stage) (is_too_long caller.shape text)
      (calls.begins caller goal [] calls.no_handle (stage.Answered (calls.too_long goal)))
      (calls.begins caller goal text calls.no_handle (stage.Find (find.Enter LoadCounter))) tt tt

  clean_begins : (w : CleanAlong) (s : CleanStage) (a : Option Answer) → IsRestingAt s → CleanHeaded t m i load log w s a
  clean_begins w clean.LoadLevel a is = tt
  clean_begins w (clean.Lock lock.LoadHead) a is = tt
  clean_begins w (clean.Lock (lock.LockHead head)) a is = absurd is
  clean_begins w (clean.Pass s) a is = absurd is
  clean_begins w clean.UnlockHead a is = absurd is
  clean_begins w (clean.Grace which s) a is = tt
  clean_begins w (clean.Free which s) a is = tt
  clean_begins w clean.GiveResizeLock a is = tt

  work_headed : (caller : Caller) (w : Option Work) → IfSome w IsResting → Headed t m i load log (begun_work_poll caller w)
  work_headed caller None rests = tt
  work_headed caller (Some (work.Clean c)) rests = clean_begins (record c.along { full_passes = 0 }) c.stage (resumed c.along c.stage) rests
  work_headed caller (Some (work.Resize r)) rests = away_headed t m i load log r.direction r.along r.stage (resizes.resumed r.along r.stage) rests

  grace_headed : (caller : Caller) (g : Option Grace) → Headed t m i load log (begun_grace_poll caller g)
  grace_headed caller None = tt
  grace_headed caller (Some g) = tt

  starts_headed : (caller : Caller) (own : Own) (c : Call) → IfSome own.work IsResting → Headed t m i load log (starts caller own c)
  starts_headed caller own call.Split rests = tt
  starts_headed caller own (call.Intern text) rests = walk_headed caller goals.Intern text.now
  starts_headed caller own (call.Lookup text) rests = walk_headed caller goals.Lookup text.now
  starts_headed caller own (call.InternWait text) rests = walk_headed caller goals.InternWait text.now
  starts_headed caller own (call.TextOf h) rests = tt
  starts_headed caller own (call.Drop h) rests = tt
  starts_headed caller own (call.Permanent h) rests = tt
  starts_headed caller own (call.Kill h) rests = tt
  starts_headed caller own call.BeginClean rests = tt
  starts_headed caller own call.BeginGrow rests = tt
  starts_headed caller own call.BeginShrink rests = tt
  starts_headed caller own call.BeginGrace rests = tt
  starts_headed caller own call.PollGrace rests = grace_headed caller own.grace
  starts_headed caller own call.PollWork rests = work_headed caller own.work rests
  starts_headed caller own (call.Sweep text) rests = tt

  -- each call at its first stage
  pub headed_begins : (seed : ℕ) (own : Own) (c : Call) → IfSome own.work IsResting → Headed t m i load log (started t.kind t.shape seed own c)
  headed_begins seed own c rests = starts_headed (caller_of t.kind t.shape seed own) own c rests

-- A TEXT THAT IS TOO LONG

too_many : (most long : ℕ) → nat_lt (min 65535 most) long ≡ true → long ≤ 65535 → long ≤ most → ⊥
too_many most long test short room = grind (arith, nat_tests)

-- it has no entry
pub too_long_is_absent : (t : Table) (m : Memory) (p : Past) (f : Flow) (text : List ℕ) → IsTable t m p f → is_too_long t.shape text ≡ true → entry_of p.now.texts text ≡ None
too_long_is_absent t m p f text table long = go (entry_of p.now.texts text) refl
  where
    go : (o : Option Entry) → entry_of p.now.texts text ≡ o → o ≡ None
    go None is = refl
    go (Some e) is =
        let entry = table.tidy.entries text e is in
        let room = table.slots.rooms e.handle.slot text e.handle entry.0 entry.1 in
        absurd (too_many (8 * t.shape.text_words) (length text) long room.0.0 room.0.1)
