-- What a work, a sweep, a grace or the beginning of one knows still holds after a step that leaves its seat what it has.
use Rattle.std.proofs.Common.{◌≡◌, ℕ, ◌+◌, ◌<◌, ◌≤◌, List, [], ◌∷◌, drop, Option, Some, None, sym, ap, subst, ◌∙◌, inl, inr, arith}
use Rattle.chain_core.specs.Nodes.{On}
use Rattle.intern_log.specs.declared.event.Handle.{Handle}
use Rattle.intern_log.specs.Lawful.{IsGracedSince}
use Rattle.intern_log.specs.Now.{Linked, Claimed, Unlinked, owner_of}
use Rattle.call_machine.specs.declared.begin.BeginStage.{BeginStage}
use Rattle.call_machine.specs.declared.begin.BeginStage.TheVariants as begin
use Rattle.call_machine.specs.declared.begin.Left.{Left}
use Rattle.call_machine.specs.declared.begin.Left.TheVariants as left
use Rattle.call_machine.specs.declared.clean.CleanAlong.{CleanAlong}
use Rattle.call_machine.specs.declared.clean.CleanStage.{CleanStage}
use Rattle.call_machine.specs.declared.clean.CleanStage.TheVariants as clean
use Rattle.call_machine.specs.declared.grace.Grace.{Grace}
use Rattle.call_machine.specs.declared.grace.GraceStage.{GraceStage}
use Rattle.call_machine.specs.declared.grace.GraceStage.TheVariants as grace
use Rattle.call_machine.specs.declared.pass.Cleaning.{Cleaning}
use Rattle.call_machine.specs.declared.pass.FreeStage.{FreeStage}
use Rattle.call_machine.specs.declared.pass.FreeStage.TheVariants as free
use Rattle.call_machine.specs.declared.pass.PassStage.{PassStage}
use Rattle.call_machine.specs.declared.pass.PassStage.TheVariants as pass
use Rattle.call_machine.specs.declared.pass.Waiting.{Waiting}
use Rattle.call_machine.specs.declared.sweep.Closing.{Closing}
use Rattle.call_machine.specs.declared.sweep.Closing.TheVariants as closing
use Rattle.call_machine.specs.declared.sweep.SweepAlong.{SweepAlong}
use Rattle.call_machine.specs.declared.sweep.SweepAsked.{SweepAsked}
use Rattle.call_machine.specs.declared.sweep.SweepStage.{SweepStage}
use Rattle.call_machine.specs.declared.sweep.SweepStage.TheVariants as sweep
use Rattle.call_machine.specs.declared.work.Work.{Work}
use Rattle.call_machine.specs.declared.work.Work.TheVariants as work
use Rattle.cht_core.specs.declared.table.Table.{Table}
use Rattle.cht_core.specs.Flow.{Flow}
use Rattle.cht_core.specs.KnowsResize.{Graced, Resizing, NoHead}
use Rattle.cht_core.specs.KnowsWork.{KnowsGrace, IsWaiting, AreWaiting, KnowsWaiting, KnowsWaited, KnowsOver, IsRenewed, KnowsFree, Locked, LeadsTo, IsDead, IsAtNode}
use Rattle.cht_core.specs.KnowsWork.{KnowsPass, KnowsGracing, KnowsCleaning, KnowsWork, KnowsClosing, KnowsSweep, KnowsLeft, KnowsBegin}
use Rattle.cht_core.specs.Memory.{Memory}
use Rattle.cht_core.specs.Past.{Past}
use Rattle.cht_core.specs.Rely.{Grows, Leaves, Spares, Still}
use Rattle.cht_core.specs.Stage.{Stage, Quiet, IsPinned}
use Rattle.cht_core.specs.TableState.{IsTable}
use Rattle.cht_core.specs.Tidy.{IsTidy}
use Rattle.cht_core.proofs.StableResize.{resize_grows}
use Rattle.cht_core.proofs.StableCalls.{find_grows, at_head_grows}
use Rattle.cht_core.proofs.Stages.{resizing_on}

module _ (m : Memory) (p : Past) (f : Flow) (m' : Memory) (p' : Past) (f' : Flow) (g : Grows m p f m' p' f') where
  -- sections that are opened later are younger
  pub graced_since_grows : (at : ℕ) → at < p.now.place → IsGracedSince p.now at → IsGracedSince p'.now at
  graced_since_grows at early h k o is = elim (g.sections k o is) [
    | inl old ↦ h k o old
    | inr new ↦ let late : p.now.place ≤ o.place = new.0 in omega (arith, early, late)
  ]

  -- a grace that began at a place still did
  pub graced_grows : (grace : Grace) (at : ℕ) → Graced p.now grace at → Graced p'.now grace at
  graced_grows grace at h =
      let early : at < p.now.place = h.early in
      let later : p.now.place ≤ p'.now.place = g.later in
      record {
        early = omega (arith, early, later);
        newer = λ k o is counter. elim (g.sections k o is) [
          | inl old ↦ h.newer k o old counter
          | inr new ↦ let late : p.now.place ≤ o.place = new.0 in omega (arith, early, late)
        ];
        passed = λ k o below is. elim (g.sections k o is) [
          | inl old ↦ h.passed k o below old
          | inr new ↦ let late : p.now.place ≤ o.place = new.0 in omega (arith, early, late)
        ];
      }

  -- a grace that has begun at a place
  pub grace_grows : (grace : Grace) → KnowsGrace p.now grace → KnowsGrace p'.now grace
  grace_grows grace h = (h.0, graced_grows grace h.0 h.1)

  module _ (t : Table) (tidy : IsTidy t p.now) (table' : IsTable t m' p' f') (i : ℕ) (leaves : Leaves i m p f m' p' f') where
    waiting_one_grows : (by by' : ℕ) (x : Waiting) → by ≤ by' → IsWaiting m p i by x → IsWaiting m' p' i by' x
    waiting_one_grows by by' x less h =
        let before : h.0 < by = h.2 in
        let often : x.generation + 1 ≤ p.uses x.slot = h.4 in
        let more : p.uses x.slot ≤ p'.uses x.slot = g.uses x.slot in
        (h.0, leaves.unlinked x.slot h.0 h.1, omega (arith, before, less), leaves.counts x.slot h.0 h.1 ∙ h.3, omega (arith, often, more))

    -- slots that wait by a place wait by any later one
    pub are_waiting_grows : (by by' : ℕ) (xs : List Waiting) → by ≤ by' → AreWaiting m p i by xs → AreWaiting m' p' i by' xs
    are_waiting_grows by by' [] less h = tt
    are_waiting_grows by by' (x ∷ xs) less h = (waiting_one_grows by by' x less h.0, are_waiting_grows by by' xs less h.1)

    -- slots that wait to be freed
    pub waiting_grows : (xs : List Waiting) → KnowsWaiting m p i xs → KnowsWaiting m' p' i xs
    waiting_grows xs h = (are_waiting_grows p.now.place p'.now.place xs g.later h.0, h.1)

    -- and a grace has begun for them
    pub waited_grows : (xs : List Waiting) (grace : Grace) → KnowsWaited m p i xs grace → KnowsWaited m' p' i xs grace
    waited_grows xs grace h = (h.0, graced_grows grace h.0 h.1, are_waiting_grows h.0 h.0 xs (omega arith) h.2, h.3)

    -- and is over
    pub over_grows : (xs : List Waiting) → KnowsOver m p i xs → KnowsOver m' p' i xs
    over_grows xs h =
        let early : h.0 < p.now.place = h.1 in
        let later : p.now.place ≤ p'.now.place = g.later in
        (h.0, omega (arith, early, later), graced_since_grows h.0 h.1 h.2, are_waiting_grows h.0 h.0 xs (omega arith) h.3, h.4)

    -- a slot that has its next generation: no handle of it is made while it is unlinked
    pub renewed_grows : (x : Waiting) → IsRenewed m p i x → IsRenewed m' p' i x
    renewed_grows x h = (
      h.0,
      leaves.unlinked x.slot h.0 h.1,
      graced_since_grows h.0 (tidy.unlinked x.slot i h.0 h.1) h.2,
      leaves.counts x.slot h.0 h.1 ∙ h.3,
      λ k made at. elim (g.made_back k made) [
        | inl was ↦ h.4 k was at
        | inr new ↦ absurd (let clash : Claimed new.0 ≡ Unlinked i h.0 = sym new.1 ∙ ap p.now.slot at ∙ h.1 in cc)
      ],
    )

    -- what one who frees the slots that wait knows
    pub free_grows : (xs : List Waiting) (s : FreeStage) → KnowsFree m p i xs s → KnowsFree m' p' i xs s
    free_grows xs (free.PutNextGeneration at) h = over_grows (drop at xs) h
    free_grows xs (free.FreeSlot at) h = (h.0, h.1, h.2, over_grows h.1 h.3, h.4, renewed_grows h.0 h.5)

    -- what the owner of the resize lock knows
    pub resizing_grows : (level : ℕ) (stage : Stage) (except : ℕ → ℕ → Type 0) → Resizing p.now f i level stage except → Resizing p'.now f' i level stage except
    resizing_grows level stage except h =
        let still : Still p.now f p'.now f' = leaves.still h.owner in
        resizing_on p.now p'.now f f' i level stage except (leaves.owner h.owner) still.level still.stage still.free h

    -- a head that the seat has locked is none of those that the owner of the resize lock has locked for nodes on two chains
    unpinned_grows : (row bucket : ℕ) → p.now.lock row bucket ≡ Some i → ¬ (IsPinned f.stage p.now.level row bucket) → ¬ (IsPinned f'.stage p'.now.level row bucket)
    unpinned_grows row bucket lock unpinned pinned =
        let by = table'.heads.pinned row bucket pinned in
        let mine : p'.now.lock row bucket ≡ Some i = leaves.locks row bucket lock in
        let same : Some by.0 ≡ Some i = sym by.2 ∙ mine in
        let owner : owner_of p'.now.resizing ≡ Some i = by.1 ∙ same in
        let still : Still p.now f p'.now f' = leaves.still (leaves.owner_back owner) in
        unpinned (subst (λ (st : Stage). IsPinned st p.now.level row bucket) still.stage (subst (λ (l : ℕ). IsPinned f'.stage l row bucket) still.level pinned))

    -- a bucket that the seat has locked
    pub locked_grows : (row bucket : ℕ) (first : Option ℕ) → Locked m p.now f i row bucket first → Locked m' p'.now f' i row bucket first
    locked_grows row bucket first h = record {
      used = leaves.used row bucket h.used h.lock;
      unpinned = unpinned_grows row bucket h.lock h.unpinned;
      lock = leaves.locks row bucket h.lock;
      head = leaves.heads row bucket h.lock ∙ h.head;
    }

    -- a node that is dead on a locked chain stays there, and dead
    pub dead_grows : (row bucket s generation : ℕ) (first : Option ℕ) → Locked m p.now f i row bucket first → On s (f.chain row bucket)
        → IsDead p.now s generation → IsDead p'.now s generation
    dead_grows row bucket s generation first l on h =
        let kept : p'.now.slot s ≡ Linked h.0 h.1 h.2 = leaves.nodes row bucket s h.0 h.1 h.2 l.used l.lock on h.3 in
        let where_it_is : (h.1.slot ≡ s) × (h.2 < p.now.place) = tidy.linked s h.0 h.1 h.2 h.3 in (
          h.0,
          h.1,
          h.2,
          kept,
          h.4,
          λ live. elim (g.entries live.0 live.1.0 live.1.1) [
            | inl old ↦ h.5 (live.0, (old.0, old.1, old.2 ∙ live.1.2))
            | inr new ↦
                let here : p'.now.slot s ≡ Linked live.0 live.1.0.handle new.0 =
                subst (λ (x : ℕ). p'.now.slot x ≡ Linked live.0 live.1.0.handle new.0) (ap (λ (k : Handle). k.slot) live.1.2 ∙ where_it_is.0) new.1 in
                let same : Linked live.0 live.1.0.handle new.0 ≡ Linked h.0 h.1 h.2 = sym here ∙ kept in
                let birth : new.0 ≡ h.2 = cc in
                let early : h.2 < p.now.place = where_it_is.1 in
                let late : p.now.place ≤ new.0 = new.2 in
                absurd (omega (arith, birth, early, late))
          ],
        )

    -- the edge that leads to a node of a locked chain
    pub leads_grows : (c : Cleaning) (last : Option ℕ) (s : ℕ) → Locked m p.now f i c.row c.bucket c.first → LeadsTo m f c last s → LeadsTo m' f' c last s
    leads_grows c None s l h = h
    leads_grows c (Some last) s l h =
        (subst (λ (nodes : List ℕ). On last nodes) (sym (leaves.chains c.row c.bucket l.used l.lock)) h.0, leaves.links c.row c.bucket last l.used l.lock h.0 ∙ h.1)

    -- a node of a locked bucket, and the edge to it
    pub at_node_grows : (c : Cleaning) (s : ℕ) → IsAtNode m p.now f i c s → IsAtNode m' p'.now f' i c s
    at_node_grows c s h = (
      locked_grows c.row c.bucket c.first h.0,
      subst (λ (nodes : List ℕ). On s nodes) (sym (leaves.chains c.row c.bucket h.0.used h.0.lock)) h.1,
      leads_grows c c.last s h.0 h.2,
    )

    -- what a pass over a locked bucket knows
    pub pass_grows : (c : Cleaning) (s : PassStage) → KnowsPass m p.now f i c s → KnowsPass m' p'.now f' i c s
    pass_grows c (pass.LoadCount s) h = at_node_grows c s h
    pass_grows c (pass.LoadLink s None) h = at_node_grows c s h
    pass_grows c (pass.LoadLink s (Some generation)) h = (at_node_grows c s h.0, dead_grows c.row c.bucket s generation c.first h.0.0 h.0.1 h.1)
    pass_grows c (pass.Unlink s generation next) h =
        (at_node_grows c s h.0, dead_grows c.row c.bucket s generation c.first h.0.0 h.0.1 h.1, leaves.links c.row c.bucket s h.0.0.used h.0.0.lock h.0.1 ∙ h.2)

    -- what one in a grace knows of those that wait
    pub gracing_grows : (xs : List Waiting) (r : Grace) (s : GraceStage) → KnowsGracing m p i xs r s → KnowsGracing m' p' i xs r s
    gracing_grows xs r grace.RaiseCounter h = waiting_grows xs h
    gracing_grows xs r grace.LoadSection h = waited_grows xs r h

    level_grows : owner_of p.now.resizing ≡ Some i → (w : CleanAlong) → w.cleaning.row ≡ p.now.level → w.cleaning.row ≡ p'.now.level
    level_grows owner w h = h ∙ sym (leaves.still owner).level

    -- what a clean knows
    pub cleaning_grows : owner_of p.now.resizing ≡ Some i → (w : CleanAlong) (s : CleanStage) → KnowsCleaning m p f i w s → KnowsCleaning m' p' f' i w s
    cleaning_grows owner w clean.LoadLevel h = h
    cleaning_grows owner w (clean.Lock s) h = (level_grows owner w h.0, waiting_grows w.cleaning.waiting.items h.1)
    cleaning_grows owner w (clean.Pass s) h = (level_grows owner w h.0, pass_grows w.cleaning s h.1, waiting_grows w.cleaning.waiting.items h.2)
    cleaning_grows owner w clean.UnlockHead h =
        (level_grows owner w h.0, locked_grows w.cleaning.row w.cleaning.bucket w.cleaning.first h.1, waiting_grows w.cleaning.waiting.items h.2)
    cleaning_grows owner w (clean.Grace freeing s) h = (level_grows owner w h.0, gracing_grows w.cleaning.waiting.items w.grace s h.1)
    cleaning_grows owner w (clean.Free freeing s) h = (level_grows owner w h.0, free_grows w.cleaning.waiting.items s h.1)
    cleaning_grows owner w clean.GiveResizeLock h = h

    quiet_grows : Resizing p.now f i p.now.level Quiet NoHead → Resizing p'.now f' i p'.now.level Quiet NoHead
    quiet_grows h = subst (λ (level : ℕ). Resizing p'.now f' i level Quiet NoHead) (sym (leaves.still h.owner).level) (resizing_grows p.now.level Quiet NoHead h)

    -- what a work knows
    pub work_grows : (w : Work) → KnowsWork m p f i w → KnowsWork m' p' f' i w
    work_grows (work.Clean c) h = (quiet_grows h.0, cleaning_grows h.0.owner c.along c.stage h.1)
    work_grows (work.Resize r) h = resize_grows t m p f m' p' f' g tidy i leaves r.direction r.along r.stage h

    left_grows : (l : Left) → KnowsLeft p.now f i l → KnowsLeft p'.now f' i l
    left_grows left.Nothing h = tt
    left_grows left.Clean h = quiet_grows h
    left_grows (left.Resize d level) h = resizing_grows level Quiet NoHead h
    left_grows (left.Grace grace) h = grace_grows grace h

    -- what a call that begins a work or a grace knows
    pub begin_grows : (s : BeginStage) → KnowsBegin p.now f i s → KnowsBegin p'.now f' i s
    begin_grows (begin.LoadCounter t) h = h
    begin_grows (begin.TakeResizeLock t) h = h
    begin_grows (begin.LoadLevel d) h = quiet_grows h
    begin_grows (begin.GiveResizeLock a) h = quiet_grows h
    begin_grows (begin.Grace r grace.RaiseCounter) h = tt
    begin_grows (begin.Grace r grace.LoadSection) h = grace_grows r h
    begin_grows (begin.Answered a l) h = left_grows l h

    closing_grows : (c : Cleaning) (why : Closing) → KnowsClosing m p.now f i c why → KnowsClosing m' p'.now f' i c why
    closing_grows c closing.Again h = tt
    closing_grows c closing.Clean h = (locked_grows c.row c.bucket c.first h.0, h.1)

  module _ (t : Table) (tidy : IsTidy t p.now) (table' : IsTable t m' p' f') (i : ℕ) (z : Spares i m p f m' p' f') where
    -- what a sweep knows
    pub sweep_grows : (q : SweepAsked) (w : SweepAlong) (s : SweepStage) → KnowsSweep m p f i q w s → KnowsSweep m' p' f' i q w s
    sweep_grows q w sweep.Check h = z.section ∙ h
    sweep_grows q w (sweep.Find s) h = find_grows t m p f m' p' f' tidy table' g i z q.hash w.walk s h
    sweep_grows q w sweep.Lock h = (at_head_grows t m p f m' p' f' tidy table' g i z q.hash w.walk h.0, h.1, h.2)
    sweep_grows q w (sweep.Close why) h = ((h.0.0, z.section ∙ h.0.1), closing_grows t tidy table' i z.leaves w.cleaning why h.1)
    sweep_grows q w (sweep.Pass s) h = (z.section ∙ h.0, pass_grows t tidy table' i z.leaves w.cleaning s h.1, waiting_grows t tidy table' i z.leaves w.cleaning.waiting.items h.2)
    sweep_grows q w sweep.UnlockHead h =
        (z.section ∙ h.0, locked_grows t tidy table' i z.leaves w.cleaning.row w.cleaning.bucket w.cleaning.first h.1, waiting_grows t tidy table' i z.leaves w.cleaning.waiting.items h.2)
    sweep_grows q w (sweep.Grace s) h = (z.section ∙ h.0, gracing_grows t tidy table' i z.leaves w.cleaning.waiting.items w.grace s h.1)
    sweep_grows q w (sweep.Free s) h = (z.section ∙ h.0, free_grows t tidy table' i z.leaves w.cleaning.waiting.items s h.1)
    sweep_grows q w (sweep.Answered a) h = z.section ∙ h
