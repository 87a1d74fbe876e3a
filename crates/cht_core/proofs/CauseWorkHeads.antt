-- What a poll of a clean knows of the head that it loaded, over its own steps; and any machine, from its beginning on.
use Rattle.std.proofs.Common.{◌≡◌, ℕ, ◌+◌, ◌^◌, ◌/◌, ◌==◌, nat_lt, if◌then◌else◌, List, [], ◌∷◌, ◌++◌, length, Option, Some, None, refl, sym}
use Rattle.std.proofs.Common.{subst, ◌∙◌}
use Rattle.marked_word.specs.Head.{is_locked, first_of}
use Rattle.section_core.specs.Words.{waits_for}
use Rattle.table_shape.specs.declared.shape.Shape.{Shape}
use Rattle.intern_log.specs.declared.event.Event.{Event}
use Rattle.atomic_step.specs.declared.answer.Answer.{Answer}
use Rattle.atomic_step.specs.declared.plan.Plan.TheVariants as plan
use Rattle.atomic_step.specs.declared.step.Step.{Step}
use Rattle.atomic_step.specs.Turn.{next_in}
use Rattle.atomic_step.proofs.Choices.{where_it_is, either_way}
use Rattle.call_machine.specs.declared.caller.Caller.{Caller}
use Rattle.call_machine.specs.declared.clean.CleanAlong.{CleanAlong}
use Rattle.call_machine.specs.declared.clean.CleanStage.{CleanStage}
use Rattle.call_machine.specs.declared.clean.CleanStage.TheVariants as clean
use Rattle.call_machine.specs.declared.clean.Freeing.{Freeing}
use Rattle.call_machine.specs.declared.clean.Freeing.TheVariants as freeing
use Rattle.call_machine.specs.declared.grace.Grace.{Grace}
use Rattle.call_machine.specs.declared.grace.GraceStage.TheVariants as grace
use Rattle.call_machine.specs.declared.grace.Gracing.{Gracing}
use Rattle.call_machine.specs.declared.grace.Gracing.TheVariants as gracing
use Rattle.call_machine.specs.declared.lock.Locking.{Locking}
use Rattle.call_machine.specs.declared.lock.Locking.TheVariants as locking
use Rattle.call_machine.specs.declared.lock.LockStage.TheVariants as lock
use Rattle.call_machine.specs.declared.machine.Machine.{Machine}
use Rattle.call_machine.specs.declared.machine.Machine.TheVariants as machine
use Rattle.call_machine.specs.declared.pass.FreeStage.{FreeStage}
use Rattle.call_machine.specs.declared.pass.PassStage.{PassStage}
use Rattle.call_machine.specs.declared.pass.Waiting.{Waiting}
use Rattle.call_machine.specs.declared.work.Work.{Work}
use Rattle.call_machine.specs.declared.work.Work.TheVariants as work
use Rattle.call_machine.specs.Clean.{Went, goes, waits_at, raises, cleans_on, locks_on, counts_pass, ends, next_bucket, graces_on, frees_on, clean_row}
use Rattle.call_machine.specs.Grace.{counts_grace}
use Rattle.call_machine.specs.Machine.{plan_of, got_of}
use Rattle.call_machine.specs.Pass.{passes_on, begins_pass, pass_row, free_row}
use Rattle.call_machine.specs.Poll.{poll_plan, polling, poll_turn}
use Rattle.call_machine.proofs.Machines.{plan_part, got_part, plan_is, got_is}
use Rattle.cht_core.specs.declared.table.Table.{Table}
use Rattle.cht_core.specs.Causes.{loaded_at, IsOnBucket}
use Rattle.cht_core.specs.HeadKept.{HeadKept, IsBucketLocked, CleanHeaded, WorkHeaded, Headed}
use Rattle.cht_core.specs.Memory.{Memory, IsMade, found}
use Rattle.cht_core.proofs.CauseAways.{answered_headed}
use Rattle.cht_core.proofs.CauseHeads.{kept_from_load}
use Rattle.cht_core.proofs.CauseHears.{IsFound}
use Rattle.cht_core.proofs.CauseOwnHeads.{IsMadeBy, call_headed}
use Rattle.cht_core.proofs.CauseResizeHeads.{resize_headed}

module _ (t : Table) (m m' : Memory) (i : ℕ) (log more : List Event) (load : ℕ) where
  abbrev Came : Went → Type 0
  Came at = CleanHeaded t m' i load (log ++ more) at.0 at.1 at.2

  -- in a stage that is not about to exchange the head nothing is known of it
  abbrev IsAway : CleanStage → Type 0
  IsAway (clean.Lock (lock.LockHead head)) = ⊥
  IsAway _ = Unit {0}

  away : (w : CleanAlong) (s : CleanStage) (a : Option Answer) → IsAway s → CleanHeaded t m' i load (log ++ more) w s a
  away w clean.LoadLevel a is = tt
  away w (clean.Lock lock.LoadHead) a is = tt
  away w (clean.Lock (lock.LockHead head)) a is = absurd is
  away w (clean.Pass s) a is = tt
  away w clean.UnlockHead a is = tt
  away w (clean.Grace which s) a is = tt
  away w (clean.Free which s) a is = tt
  away w clean.GiveResizeLock a is = tt

  on_pass : (w : CleanAlong) (s : Option PassStage) → Came (goes w (cleans_on s))
  on_pass w None = tt
  on_pass w (Some s) = tt

  ended : (w : CleanAlong) (xs : List Waiting) → Came (ends w xs)
  ended w [] = tt
  ended w (x ∷ xs) = tt

  next_on : (w : CleanAlong) → Came (next_bucket w)
  next_on w =
      either_way Came (length w.cleaning.waiting.items == 256) (raises (counts_pass w) freeing.Again)
      (if nat_lt (w.cleaning.bucket + 1) (2 ^ w.cleaning.row) then goes (record w { cleaning = record w.cleaning { bucket = w.cleaning.bucket + 1 }; full_passes = 0 })
      (clean.Lock lock.LoadHead) else ends w w.cleaning.waiting.items)
      tt
      (either_way Came (nat_lt (w.cleaning.bucket + 1) (2 ^ w.cleaning.row))
      (goes (record w { cleaning = record w.cleaning { bucket = w.cleaning.bucket + 1 }; full_passes = 0 }) (clean.Lock lock.LoadHead))
      (ends w w.cleaning.waiting.items) tt (ended w w.cleaning.waiting.items))

  freed : (shape : Shape) (w : CleanAlong) (which : Freeing) (s : Option FreeStage) → Came (frees_on shape w which s)
  freed shape w freeing.Again None = either_way Came (nat_lt (shape.slots / 256) w.full_passes) (waits_at w) (goes w (clean.Lock lock.LoadHead)) tt tt
  freed shape w freeing.Last None = tt
  freed shape w freeing.Again (Some s) = tt
  freed shape w freeing.Last (Some s) = tt

  graced : (w : CleanAlong) (which : Freeing) (g : Gracing) → Came (graces_on w which g)
  graced w which gracing.Goes = tt
  graced w which gracing.Waits = tt
  graced w which gracing.Over = tt

module _ (t : Table) (m m' : Memory) (i : ℕ) (log more : List Event) (now load : ℕ) (at : now ≡ length log) where
  abbrev Comes : ℕ → Went → Type 0
  Comes from came = CleanHeaded t m' i from (log ++ more) came.0 came.1 came.2

  -- a clean over its own step
  clean_headed : (shape : Shape) (w : CleanAlong) (s : CleanStage) (word : ℕ) → IsMadeBy m m' (plan.Step (clean_row shape w s).step) → IsFound m (plan.Step (clean_row shape w s).step) word →
      Comes (loaded_at (plan.Step (clean_row shape w s).step) now load) ((clean_row shape w s).next word)
  clean_headed shape w (clean.Lock lock.LoadHead) word made is =
      either_way (λ (l : Locking). Comes now (locks_on w l)) (is_locked word) locking.Waits (locking.Goes (lock.LockHead word)) tt
      (subst (λ head. HeadKept m' i w.cleaning.row w.cleaning.bucket now head (IsOnBucket t w.cleaning.row w.cleaning.bucket) (IsBucketLocked t w.cleaning.row w.cleaning.bucket) (log ++ more)) (sym is)
      (kept_from_load m m' i w.cleaning.row w.cleaning.bucket now log more (IsOnBucket t w.cleaning.row w.cleaning.bucket) (IsBucketLocked t w.cleaning.row w.cleaning.bucket) made at))
  clean_headed shape w (clean.Lock (lock.LockHead head)) word made is =
      either_way (λ (l : Locking). Comes load (locks_on w l)) (word == head) (locking.Locked (first_of word)) locking.Waits
      (on_pass t m m' i log more load (record w { cleaning = begins_pass w.cleaning (first_of word) }) (passes_on (first_of word))) tt
  clean_headed shape w clean.LoadLevel word made is = tt
  clean_headed shape w (clean.Pass s) word made is =
      let came = (pass_row w.cleaning s).next word in on_pass t m m' i log more (loaded_at (plan.Step (pass_row w.cleaning s).step) now load) (record w { cleaning = came.0 }) came.1
  clean_headed shape w clean.UnlockHead word made is = next_on t m m' i log more load w
  clean_headed shape w (clean.Grace which grace.RaiseCounter) word made is = tt
  clean_headed shape w (clean.Grace which grace.LoadSection) word made is =
      let came = (clean_row shape w (clean.Grace which grace.LoadSection)).next word in
      where_it_is (λ (at : Grace × Gracing). Comes load (graces_on (record w { grace = at.0; graces = counts_grace grace.LoadSection w.graces }) which at.1)) (waits_for w.grace.raised word)
      (w.grace, gracing.Waits) (if w.grace.next + 1 == shape.seats then (w.grace, gracing.Over) else (record w.grace { next = w.grace.next + 1 }, gracing.Goes)) (λ waits. tt)
      (λ goes. either_way (λ (at : Grace × Gracing). Comes load (graces_on (record w { grace = at.0; graces = counts_grace grace.LoadSection w.graces }) which at.1))
      (w.grace.next + 1 == shape.seats)
      (w.grace, gracing.Over) (record w.grace { next = w.grace.next + 1 }, gracing.Goes) tt tt)
  clean_headed shape w (clean.Free which s) word made is =
      let came = (free_row w.cleaning s).next word in freed t m m' i log more (loaded_at (plan.Step (free_row w.cleaning s).step) now load) shape (record w { cleaning = came.0 }) which came.1
  clean_headed shape w clean.GiveResizeLock word made is = tt

  poll_headed : (caller : Caller) (w : Work) (a : Option Answer) (word : ℕ) → IsMadeBy m m' (poll_plan (polling caller (w, a))) → IsFound m (poll_plan (polling caller (w, a))) word →
      WorkHeaded t m i load log w a →
      WorkHeaded t m' i (loaded_at (poll_plan (polling caller (w, a))) now load) (log ++ more) (next_in (w, a) (poll_turn caller (w, a)) word).0 (next_in (w, a) (poll_turn caller (w, a)) word).1
  poll_headed caller (work.Clean c) None word made is h = clean_headed caller.shape c.along c.stage word made is
  poll_headed caller (work.Clean c) (Some a) word made is h = answered c.along c.stage a
    where
      answered : (w : CleanAlong) (s : CleanStage) (a : Answer) → CleanHeaded t m' i load (log ++ more) w s (Some a)
      answered w clean.LoadLevel a = tt
      answered w (clean.Lock lock.LoadHead) a = tt
      answered w (clean.Lock (lock.LockHead head)) a = tt
      answered w (clean.Pass s) a = tt
      answered w clean.UnlockHead a = tt
      answered w (clean.Grace which s) a = tt
      answered w (clean.Free which s) a = tt
      answered w clean.GiveResizeLock a = tt
  poll_headed caller (work.Resize r) None word made is h = resize_headed t m m' i log more now load at caller.shape r.direction r.along r.stage word made is
  poll_headed caller (work.Resize r) (Some a) word made is h = answered_headed t m' i load (log ++ more) r.direction r.along r.stage a

  part_headed : (mach : Machine) (word : ℕ) → IsMadeBy m m' (plan_part mach) → IsFound m (plan_part mach) word → Headed t m i load log mach →
      Headed t m' i (loaded_at (plan_part mach) now load) (log ++ more) (got_part mach word)
  part_headed (machine.Call c w g) word made is h = call_headed t m m' i log more c.asked now load c.along at c.stage word made is h
  part_headed (machine.Begin b) word made is h = tt
  part_headed (machine.Poll p) word made is h = poll_headed p.caller p.work p.answer word made is h
  part_headed (machine.Sweep s) word made is h = tt

  -- a machine over its own step
  pub headed_steps : (mach : Machine) (s : Step) → plan_of mach ≡ plan.Step s → IsMade s m m' → Headed t m i load log mach →
      Headed t m' i (loaded_at (plan_of mach) now load) (log ++ more) (got_of mach (found s m))
  headed_steps mach s is made h =
      let part : plan.Step s ≡ plan_part mach = sym is ∙ plan_is mach in
      subst (λ p. Headed t m' i (loaded_at p now load) (log ++ more) (got_of mach (found s m))) (sym (plan_is mach))
      (subst (Headed t m' i (loaded_at (plan_part mach) now load) (log ++ more)) (sym (got_is mach (found s m)))
      (part_headed mach (found s m) (subst (IsMadeBy m m') part made) (subst (λ p. IsFound m p (found s m)) part refl) h))
