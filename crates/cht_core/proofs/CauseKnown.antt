-- What any machine knows as it finds a word, from what the words show and what its seat knows and owes.
use Rattle.std.proofs.Common.{◌≡◌, ℕ, true, false, List, Option, Some, None, refl, sym, ap, subst, ◌∙◌, inl, inr}
use Rattle.std.specs.Option.{option_to_list}
use Rattle.std.specs.Prelude.{IfSome}
use Rattle.text_words.specs.Hash.{hash_of}
use Rattle.table_shape.specs.declared.shape.Shape.{Shape}
use Rattle.intern_log.specs.declared.event.Event.{Event}
use Rattle.intern_log.specs.SlotBuckets.{phase_bucket}
use Rattle.atomic_step.specs.declared.answer.Answer.{Answer}
use Rattle.atomic_step.specs.Monitor.{is_held}
use Rattle.atomic_step.specs.declared.plan.Plan.TheVariants as plan
use Rattle.atomic_step.specs.declared.step.Step.{Step}
use Rattle.call_machine.specs.declared.caller.Caller.{Caller}
use Rattle.call_machine.specs.declared.clean.CleanAlong.{CleanAlong}
use Rattle.call_machine.specs.declared.clean.CleanStage.{CleanStage}
use Rattle.call_machine.specs.declared.clean.CleanStage.TheVariants as clean
use Rattle.call_machine.specs.declared.lock.LockStage.TheVariants as lock
use Rattle.call_machine.specs.declared.machine.Machine.{Machine}
use Rattle.call_machine.specs.declared.machine.Machine.TheVariants as machine
use Rattle.call_machine.specs.declared.pass.PassStage.TheVariants as pass
use Rattle.call_machine.specs.declared.work.Work.{Work}
use Rattle.call_machine.specs.declared.work.Work.TheVariants as work
use Rattle.call_machine.specs.Clean.{clean_row}
use Rattle.call_machine.specs.Machine.{plan_of}
use Rattle.call_machine.specs.Poll.{poll_plan, polling, work_left}
use Rattle.call_machine.specs.SoundClean.{IsSoundClean}
use Rattle.call_machine.specs.Work.{IsSoundWork}
use Rattle.call_machine.specs.WholeClean as cleans
use Rattle.call_machine.proofs.Machines.{plan_part, plan_is}
use Rattle.cht_core.specs.declared.seat.Seat.TheVariants as doing
use Rattle.cht_core.specs.declared.table.Table.{Table}
use Rattle.cht_core.specs.Caused.{Hears}
use Rattle.cht_core.specs.Causes.{CleanHears, PollHears}
use Rattle.cht_core.specs.Flow.{Flow}
use Rattle.cht_core.specs.HeadKept.{CleanHeaded, WorkHeaded, Headed}
use Rattle.cht_core.specs.KnowsResize.{Resizing, NoHead}
use Rattle.cht_core.specs.KnowsWork.{KnowsCleaning, KnowsWork}
use Rattle.cht_core.specs.Memory.{Memory, found}
use Rattle.cht_core.specs.Owes.{Owes, locked_in_work}
use Rattle.cht_core.specs.Past.{Past, past_of}
use Rattle.cht_core.specs.Stage.{Quiet}
use Rattle.cht_core.specs.TableState.{IsTable}
use Rattle.cht_core.specs.View.{IsOfSeat, KnowsMachine}
use Rattle.cht_core.proofs.CauseResizeKnown.{resize_hears}
use Rattle.cht_core.proofs.CauseHears.{IsFound, call_hears, begin_hears}
use Rattle.cht_core.proofs.Stages.{quiet_used, quiet_home}

module _ (t : Table) (m : Memory) (f : Flow) (i load : ℕ) (log : List Event) where
  abbrev Now' : Past
  Now' = past_of t.shape.min_level log

  clean_hears : IsTable t m Now' f → (shape : Shape) (w : CleanAlong) (s : CleanStage) (word : ℕ) → IsSoundClean shape w s → Resizing Now'.now f i Now'.now.level Quiet NoHead → KnowsCleaning m Now' f i w s →
      ((row bucket : ℕ) → Now'.now.lock row bucket ≡ Some i → is_held row bucket (option_to_list (cleans.locked_at w.cleaning s)) ≡ true) → CleanHeaded t m i load log w s None →
      IsFound m (plan.Step (clean_row shape w s).step) word →
      CleanHears t Now' f i load log w s word
  clean_hears table shape w (clean.Lock lock.LoadHead) word sound owner knows owes head is =
      (quiet_used Now'.now f w.cleaning.row w.cleaning.bucket owner.at_stage knows.0 sound.cleaning.bucket, λ mine. (let clash : false ≡ true = owes w.cleaning.row w.cleaning.bucket mine in cc))
  clean_hears table shape w (clean.Lock (lock.LockHead h)) word sound owner knows owes head is = elim (head.says (sound.step 0).1) [ inl same ↦ inl (is ∙ same) | inr since ↦ inr since ]
  clean_hears table shape w clean.LoadLevel word sound owner knows owes head is = tt
  clean_hears table shape w (clean.Pass (pass.Unlink s g next)) word sound owner knows owes head is =
      let (text, h, at, linked, home) = table.chains.on_linked w.cleaning.row w.cleaning.bucket s knows.1.0.0.used knows.1.0.1 in
      ap (phase_bucket Now'.now w.cleaning.row) linked ∙ ap (λ b. Some b) (quiet_home Now'.now f w.cleaning.row w.cleaning.bucket (hash_of Now'.now.seed text) owner.at_stage home)
  clean_hears table shape w (clean.Pass (pass.LoadCount s)) word sound owner knows owes head is = tt
  clean_hears table shape w (clean.Pass (pass.LoadLink s dead)) word sound owner knows owes head is = tt
  clean_hears table shape w clean.UnlockHead word sound owner knows owes head is = tt
  clean_hears table shape w (clean.Grace which s) word sound owner knows owes head is = tt
  clean_hears table shape w (clean.Free which s) word sound owner knows owes head is = tt
  clean_hears table shape w clean.GiveResizeLock word sound owner knows owes head is = tt

  poll_hears : IsTable t m Now' f → (caller : Caller) (w : Work) (a : Option Answer) (word : ℕ) → IsSoundWork caller.shape w → IfSome (work_left w a) (KnowsWork m Now' f i) →
      ((row bucket : ℕ) → Now'.now.lock row bucket ≡ Some i → is_held row bucket (locked_in_work (work_left w a)) ≡ true) → WorkHeaded t m i load log w a →
      IsFound m (poll_plan (polling caller (w, a))) word →
      PollHears t Now' f i load log w a word
  poll_hears table caller (work.Clean c) None word sound knows owes head is = clean_hears table caller.shape c.along c.stage word sound knows.0 knows.1 owes head is
  poll_hears table caller (work.Clean c) (Some a) word sound knows owes head is = tt
  poll_hears table caller (work.Resize r) None word sound knows owes head is = resize_hears t m f i load log caller.shape r.direction r.along r.stage word sound knows owes head is
  poll_hears table caller (work.Resize r) (Some a) word sound knows owes head is = tt

  part_hears : (passed : List ℕ) (mach : Machine) (word : ℕ) → IsTable t m Now' f → IsOfSeat t Now'.now i mach → KnowsMachine m Now' f i load passed mach → Owes Now' i (doing.Running mach) →
      Headed t m i load log mach → IsFound m (plan_part mach) word → Hears t Now' f i load log mach word
  part_hears passed (machine.Call c w g) word table of knows owes head is = call_hears t m f i load passed log table c.asked c.along of.seed of.kind c.stage word knows.0.0 head is
  part_hears passed (machine.Begin b) word table of knows owes head is = begin_hears t m f i load passed log table b owes
  part_hears passed (machine.Poll p) word table of knows owes head is = poll_hears table p.caller p.work p.answer word of.sound.work knows.1 owes.locked head is
  part_hears passed (machine.Sweep s) word table of knows owes head is = tt

  -- what a machine knows as its step finds a word
  pub hears : (passed : List ℕ) (mach : Machine) (s : Step) → IsTable t m Now' f → IsOfSeat t Now'.now i mach → KnowsMachine m Now' f i load passed mach → Owes Now' i (doing.Running mach) →
      Headed t m i load log mach → plan_of mach ≡ plan.Step s → Hears t Now' f i load log mach (found s m)
  hears passed mach s table of knows owes head is =
      part_hears passed mach (found s m) table of knows owes head (subst (λ p. IsFound m p (found s m)) (sym is ∙ plan_is mach) refl)
