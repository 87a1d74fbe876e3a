-- What a machine knows of the head that it loaded, over steps of others and over its own.
use Rattle.std.proofs.Common.{◌≡◌, ◌≢◌, ℕ, List, ◌++◌, Option, Some, None, sym, ap, subst, inl, ◌∙◌}
use Rattle.text_words.specs.Hash.{hash_of}
use Rattle.intern_log.specs.declared.event.Event.{Event}
use Rattle.intern_log.specs.declared.event.What.{What}
use Rattle.intern_log.specs.CauseEvents.{IsCreateUnlinkOrLockOn}
use Rattle.atomic_step.specs.declared.answer.Answer.{Answer}
use Rattle.atomic_step.specs.declared.step.Step.{Step}
use Rattle.atomic_step.specs.Event.{event_of}
use Rattle.call_machine.specs.declared.clean.CleanAlong.{CleanAlong}
use Rattle.call_machine.specs.declared.clean.CleanStage.{CleanStage}
use Rattle.call_machine.specs.declared.clean.CleanStage.TheVariants as clean
use Rattle.call_machine.specs.declared.find.Walk.{Walk}
use Rattle.call_machine.specs.declared.insert.InsertStage.{InsertStage}
use Rattle.call_machine.specs.declared.insert.InsertStage.TheVariants as insert
use Rattle.call_machine.specs.declared.lock.LockStage.TheVariants as lock
use Rattle.call_machine.specs.declared.machine.Machine.{Machine}
use Rattle.call_machine.specs.declared.machine.Machine.TheVariants as machine
use Rattle.call_machine.specs.declared.node.NodeStage.{NodeStage}
use Rattle.call_machine.specs.declared.node.NodeStage.TheVariants as node
use Rattle.call_machine.specs.declared.resize.Direction.{Direction}
use Rattle.call_machine.specs.declared.resize.ResizeAlong.{ResizeAlong}
use Rattle.call_machine.specs.declared.resize.ResizeStage.{ResizeStage}
use Rattle.call_machine.specs.declared.resize.ResizeStage.TheVariants as resize
use Rattle.call_machine.specs.declared.stage.Along.{Along}
use Rattle.call_machine.specs.declared.stage.Asked.{Asked}
use Rattle.call_machine.specs.declared.stage.CallStage.{CallStage}
use Rattle.call_machine.specs.declared.stage.CallStage.TheVariants as stage
use Rattle.call_machine.specs.declared.work.Work.{Work}
use Rattle.call_machine.specs.declared.work.Work.TheVariants as work
use Rattle.call_machine.specs.Resize.{bucket_at}
use Rattle.cht_core.specs.declared.table.Table.{Table}
use Rattle.cht_core.specs.Backs.{Backs}
use Rattle.cht_core.specs.Causes.{now_in, IsOnBucket}
use Rattle.cht_core.specs.CauseCalls.{home_of, IsOnHome, IsTextLocked}
use Rattle.cht_core.specs.Flow.{Flow}
use Rattle.cht_core.specs.Stage.{bucket_in}
use Rattle.cht_core.specs.HeadKept.{HeadKept, IsBucketLocked, WalkHeaded, CleanHeaded, ResizeHeaded, WorkHeaded, Headed}
use Rattle.cht_core.specs.Invariant.{events_of}
use Rattle.cht_core.specs.KnowsCall.{KnowsInsert, KnowsNode, KnowsStage}
use Rattle.cht_core.specs.Memory.{Memory, IsMade, found}
use Rattle.cht_core.specs.Past.{past_of}
use Rattle.cht_core.specs.View.{KnowsMachine, seed_in}
use Rattle.cht_core.proofs.CauseAways.{answered_headed}
use Rattle.cht_core.proofs.CauseHeads.{IsLockedHead, kept_by_others}

-- a row and a bucket are those of a text, by what is so of them where they are known
pub home_is : (t : Table) (log : List Event) (q : Asked) (row bucket : ℕ) → q.seed ≡ (now_in t log).seed → bucket ≡ bucket_in row (hash_of q.seed q.text) →
    bucket ≡ home_of (now_in t log) row q.text
home_is t log q row bucket seeds at = at ∙ ap (λ s. bucket_in row (hash_of s q.text)) seeds

on_home : (t : Table) (log : List Event) (text : List ℕ) (row bucket : ℕ) (w : What) → bucket ≡ home_of (now_in t log) row text →
    IsCreateUnlinkOrLockOn (now_in t log) row bucket w → IsOnHome t row text log w
on_home t log text row bucket w home on = subst (λ b. IsCreateUnlinkOrLockOn (now_in t log) row b w) home on

text_locked : (t : Table) (log : List Event) (text : List ℕ) (row bucket : ℕ) → bucket ≡ home_of (now_in t log) row text → IsLockedHead (now_in t log) row bucket → IsTextLocked t text log
text_locked t log text row bucket home locked = (row, inl locked.0, (locked.1.0, ap ((now_in t log).lock row) (sym home) ∙ locked.1.1))

module _ (t : Table) (m m' : Memory) (f : Flow) (i j : ℕ) (text : List ℕ) (s : Step) (log : List Event) (load : ℕ) (other : j ≢ i) (made : IsMade s m m')
    (backs : Backs t m (past_of t.shape.min_level log) f j text s) where
  abbrev After : List Event
  After = log ++ events_of j (event_of text s (found s m))

  walk_on : (q : Asked) (walk : Walk) → q.seed ≡ (now_in t log).seed → walk.bucket ≡ bucket_in walk.row (hash_of q.seed q.text) →
      HeadKept m i walk.row walk.bucket load walk.head (IsOnHome t walk.row q.text) (IsTextLocked t q.text) log →
      HeadKept m' i walk.row walk.bucket load walk.head (IsOnHome t walk.row q.text) (IsTextLocked t q.text) After
  walk_on q walk seeds at h =
      kept_by_others t m m' f i j text s log walk.row walk.bucket load walk.head (IsOnHome t walk.row q.text) (IsTextLocked t q.text)
      (λ w on. on_home t log q.text walk.row walk.bucket w (home_is t log q walk.row walk.bucket seeds at) on)
      (λ locked. text_locked t log q.text walk.row walk.bucket (home_is t log q walk.row walk.bucket seeds at) locked) other made backs h

  module _ (passed : List ℕ) (q : Asked) (w : Along) (seeds : q.seed ≡ (now_in t log).seed) where
    node_on : (x : NodeStage) → KnowsNode m (now_in t log) f i load passed q w x → WalkHeaded t m i load log q.text w.walk (stage.Node x) → WalkHeaded t m' i load After q.text w.walk (stage.Node x)
    node_on (node.Meta x) knows h = walk_on q w.walk seeds knows.bucket h
    node_on (node.Text x at) knows h = walk_on q w.walk seeds knows.0.bucket h
    node_on (node.Count x) knows h = walk_on q w.walk seeds knows.0.bucket h
    node_on (node.Link x) knows h = walk_on q w.walk seeds knows.0.bucket h
    node_on (node.Take x count) knows h = tt

    insert_on : (x : InsertStage) → KnowsInsert m (now_in t log) f i load passed q w x → WalkHeaded t m i load log q.text w.walk (stage.Insert x) →
        WalkHeaded t m' i load After q.text w.walk (stage.Insert x)
    insert_on (insert.Claim slot tried) knows h = walk_on q w.walk seeds knows.bucket h
    insert_on (insert.OwnCount slot) knows h = walk_on q w.walk seeds knows.0.bucket h
    insert_on (insert.PutMeta k) knows h = walk_on q w.walk seeds knows.0.bucket h
    insert_on (insert.PutText k at) knows h = walk_on q w.walk seeds knows.0.bucket h
    insert_on (insert.PutLink k) knows h = walk_on q w.walk seeds knows.0.bucket h
    insert_on (insert.PutCount k) knows h = walk_on q w.walk seeds knows.0.bucket h
    insert_on (insert.Create k) knows h = walk_on q w.walk seeds knows.0.bucket h

    stage_on : (x : CallStage) → KnowsStage m (past_of t.shape.min_level log) f i load passed q w x → WalkHeaded t m i load log q.text w.walk x → WalkHeaded t m' i load After q.text w.walk x
    stage_on (stage.Node x) knows h = node_on x knows.0 h
    stage_on (stage.Insert x) knows h = insert_on x knows h
    stage_on (stage.Answered a) knows h = tt
    stage_on (stage.Draw x) knows h = tt
    stage_on (stage.Find x) knows h = tt
    stage_on (stage.Leave x) knows h = tt
    stage_on (stage.Handle x) knows h = tt
    stage_on (stage.Read x) knows h = tt

  clean_on : (w : CleanAlong) (x : CleanStage) (a : Option Answer) → CleanHeaded t m i load log w x a → CleanHeaded t m' i load After w x a
  clean_on w (clean.Lock (lock.LockHead head)) None h =
      kept_by_others t m m' f i j text s log w.cleaning.row w.cleaning.bucket load head (IsOnBucket t w.cleaning.row w.cleaning.bucket) (IsBucketLocked t w.cleaning.row w.cleaning.bucket) (λ e on. on) (λ locked. locked.1) other made backs h
  clean_on w (clean.Lock (lock.LockHead head)) (Some a) h = tt
  clean_on w (clean.Lock lock.LoadHead) a h = tt
  clean_on w clean.LoadLevel a h = tt
  clean_on w (clean.Pass x) a h = tt
  clean_on w clean.UnlockHead a h = tt
  clean_on w (clean.Grace which x) a h = tt
  clean_on w (clean.Free which x) a h = tt
  clean_on w clean.GiveResizeLock a h = tt

  resize_on : (d : Direction) (w : ResizeAlong) (x : ResizeStage) (a : Option Answer) → ResizeHeaded t m i load log d w x a → ResizeHeaded t m' i load After d w x a
  resize_on d w (resize.Lock side (lock.LockHead head)) None h =
      let bucket : ℕ = bucket_at d w side in
      kept_by_others t m m' f i j text s log w.level bucket load head (IsOnBucket t w.level bucket) (IsBucketLocked t w.level bucket) (λ e on. on) (λ locked. locked.1) other made backs h
  resize_on d w x (Some a) h = answered_headed t m' i load After d w x a
  resize_on d w (resize.Lock side lock.LoadHead) None h = tt
  resize_on d w resize.PutNewLevel None h = tt
  resize_on d w (resize.PutHead side) None h = tt
  resize_on d w (resize.RedirectHead side) None h = tt
  resize_on d w (resize.Unzip x) None h = tt
  resize_on d w (resize.Join x) None h = tt
  resize_on d w (resize.UnlockHead side) None h = tt
  resize_on d w (resize.Grace y x) None h = tt
  resize_on d w resize.StoreLevel None h = tt
  resize_on d w resize.ClearNewLevel None h = tt
  resize_on d w resize.GiveResizeLock None h = tt

  -- what a machine knows of its head it still knows after a step of another seat
  pub headed_waits : (passed : List ℕ) (mach : Machine) → seed_in mach ≡ (now_in t log).seed → KnowsMachine m (past_of t.shape.min_level log) f i load passed mach →
      Headed t m i load log mach → Headed t m' i load After mach
  headed_waits passed (machine.Call c w g) seeds knows h = stage_on passed c.asked c.along seeds c.stage knows.0.0 h
  headed_waits passed (machine.Begin b) seeds knows h = tt
  headed_waits passed (machine.Poll p) seeds knows h = poll p.work p.answer h
    where
      poll : (w : Work) (a : Option Answer) → WorkHeaded t m i load log w a → WorkHeaded t m' i load After w a
      poll (work.Clean c) a h = clean_on c.along c.stage a h
      poll (work.Resize r) a h = resize_on r.direction r.along r.stage a h
  headed_waits passed (machine.Sweep x) seeds knows h = tt
