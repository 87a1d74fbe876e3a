-- What a resize knows after a step of one of its graces.
use Rattle.std.proofs.Common.{◌≡◌, ℕ, ◌+◌, ◌^◌, ◌<◌, ◌≤◌, Bool, List, Option, Some, None, refl, sym, ap, subst, ◌∙◌, inl, inr, arith}
use Rattle.std.specs.Prelude.{if◌then◌else◌}
use Rattle.std.proofs.lemmas.Bool.{eq-eqb}
use Rattle.marked_word.specs.Link.{node_of}
use Rattle.table_shape.specs.declared.place.Place.TheVariants as place
use Rattle.intern_log.specs.Lawful.{IsGracedSince}
use Rattle.intern_log.specs.Now.{Now, owner_of}
use Rattle.atomic_step.specs.declared.step.Step.TheVariants as step
use Rattle.call_machine.specs.declared.grace.Grace.{Grace}
use Rattle.call_machine.specs.declared.grace.GraceStage.TheVariants.{RaiseCounter, LoadSection}
use Rattle.call_machine.specs.declared.grace.Gracing.{Gracing}
use Rattle.call_machine.specs.declared.grace.Gracing.TheVariants.{Goes, Waits, Over}
use Rattle.call_machine.specs.declared.resize.AfterGrace.{AfterGrace}
use Rattle.call_machine.specs.declared.resize.AfterGrace.TheVariants as after
use Rattle.call_machine.specs.declared.resize.Chain.{Chain}
use Rattle.call_machine.specs.declared.resize.Chains.{Chains}
use Rattle.call_machine.specs.declared.resize.ResizeAlong.{ResizeAlong}
use Rattle.call_machine.specs.declared.resize.ResizeStage.TheVariants as stage
use Rattle.call_machine.specs.Grace.{scanned}
use Rattle.call_machine.specs.Resize.{graces_on, unzips_on, joined_first}
use Rattle.cht_core.specs.declared.table.Table.{Table}
use Rattle.cht_core.specs.Flow.{Flow, is_owner_in, raised_at}
use Rattle.cht_core.specs.KnowsResize.{Graced, NoHead, Resizing, HasLocked, Raising, Until, IsOver, IsReady, Side, Unzipping, HasOpened, AreNew, KnowsGrow, KnowsShrink, KnowsLast, evens, odds}
use Rattle.cht_core.specs.KnowsResize as knows
use Rattle.cht_core.specs.Memory.{Memory, IsMade, links}
use Rattle.cht_core.specs.Past.{Past}
use Rattle.cht_core.specs.Stage.{Stage, Splitting, Shrinking, Closing}
use Rattle.cht_core.specs.TableState.{IsTable}
use Rattle.cht_core.proofs.Basics.{after_load}
use Rattle.cht_core.proofs.GraceStages.{after_grace, begun_grace, raised_is_graced, KnowsScanned, scan_knows}
use Rattle.cht_core.proofs.ResizeParts.{resizing_on}
use Rattle.cht_core.proofs.ResizeUsed.{path_kept}
use Rattle.cht_core.proofs.Turns.{flow_of}

-- THE COUNTER IS RAISED

module _ (m m' : Memory) (p : Past) (f : Flow) (i : ℕ) (text : List ℕ) (made : IsMade step.RaiseCounter m m') where
  abbrev raised_flow : Flow
  raised_flow = flow_of p f i text step.RaiseCounter m

  resizing_raises : (level : ℕ) (st : Stage) (except : ℕ → ℕ → Type 0) → Resizing p.now f i level st except → Resizing (after_grace p i).now raised_flow i level st except
  resizing_raises level st except h = resizing_on p.now (after_grace p i).now f raised_flow i level st st except except h refl refl h.at_stage
      (λ row bucket is comes. inl (is, comes)) (λ row bucket was. inr was) (λ row bucket unused out free. free)

  locked_raises : (row bucket : ℕ) (first : Option ℕ) → HasLocked m p.now i row bucket first → HasLocked m' (after_grace p i).now i row bucket first
  locked_raises row bucket first h = (h.0, made.there (place.Head row bucket) (λ e. cc) ∙ h.1)

  parted_raises : owner_of p.now.resizing ≡ Some i → (s : ℕ) → raised_flow.parted s ≡ raised_at p.now.place (f.parted s)
  parted_raises owner s =
      ap (λ (o : Option ℕ). (if is_owner_in o i then (λ (x : ℕ). raised_at p.now.place (f.parted x)) else f.parted) s) owner
      ∙ ap (λ (b : Bool). (if b then (λ (x : ℕ). raised_at p.now.place (f.parted x)) else f.parted) s) (eq-eqb i i refl)

  over_raises : (s : ℕ) → owner_of p.now.resizing ≡ Some i → IsOver p.now f s → IsOver (after_grace p i).now raised_flow s
  over_raises s owner h = let early : h.0 < p.now.place = h.2 in (h.0, parted_raises owner s ∙ ap (raised_at p.now.place) h.1, omega (arith, early), h.3)

  ready_raises : (x s : ℕ) → owner_of p.now.resizing ≡ Some i → IsReady p.now f (Raising x) s → IsReady (after_grace p i).now raised_flow (Until x p.now.place) s
  ready_raises x s owner h = elim h [ inl over ↦ inl (over_raises s owner over) | inr at ↦ inr (at.0, parted_raises owner s ∙ ap (raised_at p.now.place) at.1) ]

  side_raises : (x level b : ℕ) (chain : Chain) (rest : List ℕ) → owner_of p.now.resizing ≡ Some i → Side m p.now f i level b chain rest (Raising x)
      → Side m' (after_grace p i).now raised_flow i level b chain rest (Until x p.now.place)
  side_raises x level b chain rest owner h = record {
    own = h.own;
    order = h.order;
    locked = locked_raises (level + 1) b chain.first h.locked;
    last = h.last;
    mine = λ s on. let k = h.mine s on in (k.0, k.1, k.2, k.3, k.4, ready_raises x s owner k.5);
  }

  unzipping_raises : (x level b : ℕ) (chains : Chains) (first : Option ℕ) → Unzipping m p.now f i level b chains first (Raising x)
      → Unzipping m' (after_grace p i).now raised_flow i level b chains first (Until x p.now.place)
  unfolding side_raises
  unzipping_raises x level b chains first h = record {
    done = h.done;
    rest = h.rest;
    path = path_kept (links m) (links m') first h.rest (λ s on. ap node_of (made.there (place.Link s) (λ e. cc))) h.path;
    even = side_raises x level b chains.even h.rest h.resizing.owner h.even;
    odd = side_raises x level (b + 2 ^ level) chains.odd h.rest h.resizing.owner h.odd;
    even_is = h.even_is;
    odd_is = h.odd_is;
    latest = h.latest;
    below = h.below;
    resizing = resizing_raises level (Splitting b) NoHead h.resizing;
  }

  last_raises : (t : Table) (level : ℕ) → IsTable t m p f → Resizing p.now f i level Closing NoHead → KnowsLast (after_grace p i).now raised_flow i level (begun_grace (m place.Counter)) LoadSection
  last_raises t level table h = (resizing_raises level Closing NoHead h, (p.now.place, raised_is_graced t m p i table.tidy table.sections, table.tidy.since))

  opened_raises : (k b : ℕ) (first : Option ℕ) → HasOpened m p.now f i k b first → HasOpened m' (after_grace p i).now raised_flow i k b first
  opened_raises k b first h = (h.0, locked_raises k b first h.1, resizing_raises (k + 1) (Shrinking k (b + 1)) NoHead h.2)

  -- with what goes along then
  abbrev along_raised : ResizeAlong → ℕ → ResizeAlong
  along_raised w graces = record w { grace = begun_grace (m place.Counter); graces = graces }

  pub grow_raises : (t : Table) (w : ResizeAlong) (graces : ℕ) (then_do : AfterGrace) → IsTable t m p f → KnowsGrow m p.now f i w (stage.Grace then_do RaiseCounter)
      → KnowsGrow m' (after_grace p i).now raised_flow i (along_raised w graces) (stage.Grace then_do LoadSection)
  grow_raises t w graces after.Unzip table h = (h.0, p.now.place, unzipping_raises h.0 w.level w.bucket w.chains w.rest h.1, raised_is_graced t m p i table.tidy table.sections)
  grow_raises t w graces after.UnlockHead table h = absurd h
  grow_raises t w graces after.ClearNewLevel table h = last_raises t (w.level + 1) table h

  pub shrink_raises : (t : Table) (k : ℕ) (w : ResizeAlong) (graces : ℕ) (then_do : AfterGrace) → IsTable t m p f → KnowsShrink m p.now f i k w (stage.Grace then_do RaiseCounter)
      → KnowsShrink m' (after_grace p i).now raised_flow i k (along_raised w graces) (stage.Grace then_do LoadSection)
  shrink_raises t k w graces after.Unzip table h = absurd h
  shrink_raises t k w graces after.UnlockHead table h = opened_raises k w.bucket (joined_first (evens w) (odds w)) h
  shrink_raises t k w graces after.ClearNewLevel table h = last_raises t k table h

-- A SECTION WORD IS LOOKED AT

module _ (m : Memory) (n : Now) (f : Flow) (i : ℕ) where
  ready_over : (x at s : ℕ) → at < n.place → IsGracedSince n at → IsReady n f (Until x at) s → IsReady n f knows.Over s
  ready_over x at s early graced h = elim h [ inl over ↦ over | inr here ↦ (at, here.1, early, graced) ]

  side_over : (x at level b : ℕ) (chain : Chain) (rest : List ℕ) → at < n.place → IsGracedSince n at → Side m n f i level b chain rest (Until x at) → Side m n f i level b chain rest knows.Over
  side_over x at level b chain rest early graced h = record {
    own = h.own;
    order = h.order;
    locked = h.locked;
    last = h.last;
    mine = λ s on. let k = h.mine s on in (k.0, k.1, k.2, k.3, k.4, ready_over x at s early graced k.5);
  }

  unzipping_over : (x at level b : ℕ) (chains : Chains) (first : Option ℕ) → at < n.place → IsGracedSince n at → Unzipping m n f i level b chains first (Until x at)
      → Unzipping m n f i level b chains first knows.Over
  unfolding side_over
  unzipping_over x at level b chains first early graced h = record {
    done = h.done;
    rest = h.rest;
    path = h.path;
    even = side_over x at level b chains.even h.rest early graced h.even;
    odd = side_over x at level (b + 2 ^ level) chains.odd h.rest early graced h.odd;
    even_is = h.even_is;
    odd_is = h.odd_is;
    latest = tt;
    below = h.below;
    resizing = h.resizing;
  }

  -- the next node, or the end of the chain
  pub unzips_further : (w : ResizeAlong) (first : Option ℕ) → Unzipping m n f i w.level w.bucket w.chains first knows.Over → KnowsGrow m n f i w (unzips_on first)
  unzips_further w None u = u
  unzips_further w (Some x) u = u

  all_new : (at : ℕ) → n.since ≤ at → IsGracedSince n at → AreNew n
  all_new at since graced k o is = let late : at < o.place = graced k o is in omega (arith, since, late)

  abbrev along_scanned : ResizeAlong → Grace → ResizeAlong
  along_scanned w g = record w { grace = g; graces = w.graces }

  grow_scanned : (w : ResizeAlong) (then_do : AfterGrace) (g : Grace) (gracing : Gracing) → ((at : ℕ) → Graced n w.grace at → KnowsScanned n at g gracing)
      → KnowsGrow m n f i w (stage.Grace then_do LoadSection) → let came = graces_on (along_scanned w g) then_do gracing in KnowsGrow m n f i came.0 came.1
  grow_scanned w after.Unzip g Goes scan h = (h.0, h.1, h.2, scan h.1 h.3)
  grow_scanned w after.Unzip g Waits scan h = (h.0, h.1, h.2, scan h.1 h.3)
  grow_scanned w after.Unzip g Over scan h =
      let over = scan h.1 h.3 in unzips_further (along_scanned w g) w.rest (unzipping_over h.0 h.1 w.level w.bucket w.chains w.rest over.0 over.1 h.2)
  grow_scanned w after.UnlockHead g gracing scan h = absurd h
  grow_scanned w after.ClearNewLevel g Goes scan h = (h.0, (h.1.0, scan h.1.0 h.1.1, h.1.2))
  grow_scanned w after.ClearNewLevel g Waits scan h = (h.0, (h.1.0, scan h.1.0 h.1.1, h.1.2))
  grow_scanned w after.ClearNewLevel g Over scan h = (h.0, all_new h.1.0 h.1.2 (scan h.1.0 h.1.1).1)

  shrink_scanned : (k : ℕ) (w : ResizeAlong) (then_do : AfterGrace) (g : Grace) (gracing : Gracing) → ((at : ℕ) → Graced n w.grace at → KnowsScanned n at g gracing)
      → KnowsShrink m n f i k w (stage.Grace then_do LoadSection) → let came = graces_on (along_scanned w g) then_do gracing in KnowsShrink m n f i k came.0 came.1
  shrink_scanned k w after.Unzip g gracing scan h = absurd h
  shrink_scanned k w after.UnlockHead g Goes scan h = h
  shrink_scanned k w after.UnlockHead g Waits scan h = h
  shrink_scanned k w after.UnlockHead g Over scan h = h
  shrink_scanned k w after.ClearNewLevel g Goes scan h = (h.0, (h.1.0, scan h.1.0 h.1.1, h.1.2))
  shrink_scanned k w after.ClearNewLevel g Waits scan h = (h.0, (h.1.0, scan h.1.0 h.1.1, h.1.2))
  shrink_scanned k w after.ClearNewLevel g Over scan h = (h.0, all_new h.1.0 h.1.2 (scan h.1.0 h.1.1).1)

module _ (t : Table) (m m' : Memory) (p : Past) (f : Flow) (i : ℕ) (w : ResizeAlong) (table : IsTable t m p f) (made : IsMade (step.LoadSection w.grace.next) m m') where
  scans : (at : ℕ) → Graced p.now w.grace at
      → KnowsScanned p.now at (scanned t.shape.seats w.grace (m (place.Section w.grace.next))).0 (scanned t.shape.seats w.grace (m (place.Section w.grace.next))).1
  scans at graced = scan_knows t m p.now w.grace at table.words table.sections graced

  pub grow_scans : (then_do : AfterGrace) → KnowsGrow m p.now f i w (stage.Grace then_do LoadSection) →
      let came = scanned t.shape.seats w.grace (m (place.Section w.grace.next)) in
      let went = graces_on (record w { grace = came.0; graces = w.graces }) then_do came.1 in KnowsGrow m' p.now f i went.0 went.1
  grow_scans then_do h =
      let came = scanned t.shape.seats w.grace (m (place.Section w.grace.next)) in
      let went = graces_on (record w { grace = came.0; graces = w.graces }) then_do came.1 in
      subst (λ (now : Memory). KnowsGrow now p.now f i went.0 went.1) (sym (after_load (step.LoadSection w.grace.next) m m' refl made)) (grow_scanned m p.now f i w then_do came.0 came.1 scans h)

  pub shrink_scans : (k : ℕ) (then_do : AfterGrace) → KnowsShrink m p.now f i k w (stage.Grace then_do LoadSection) →
      let came = scanned t.shape.seats w.grace (m (place.Section w.grace.next)) in
      let went = graces_on (record w { grace = came.0; graces = w.graces }) then_do came.1 in KnowsShrink m' p.now f i k went.0 went.1
  shrink_scans k then_do h =
      let came = scanned t.shape.seats w.grace (m (place.Section w.grace.next)) in
      let went = graces_on (record w { grace = came.0; graces = w.graces }) then_do came.1 in
      subst (λ (now : Memory). KnowsShrink now p.now f i k went.0 went.1) (sym (after_load (step.LoadSection w.grace.next) m m' refl made)) (shrink_scanned m p.now f i k w then_do came.0 came.1 scans h)
