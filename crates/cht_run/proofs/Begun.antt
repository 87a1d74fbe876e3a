-- What a call has found out that is to begin a work or a grace, and what its seat has done.
use Rattle.std.proofs.Common.{◌≡◌, ◌≢◌, ℕ, ◌+◌, ◌^◌, ◌<◌, Bool, true, false, cond, ◌==◌, nat_le, List, [], ◌∷◌, ◌++◌, Option, Some, None, refl, sym, ap, subst, ◌∙◌, arith}
use Rattle.std.specs.Prelude.{is_some, if◌then◌else◌}
use Rattle.std.proofs.lemmas.Bool.{eq-eqb, eqb-true, leb-true, leb-false}
use Rattle.std.proofs.lemmas.List.{append-nil, append_assoc}
use Rattle.table_shape.specs.declared.shape.Shape.{Shape}
use Rattle.intern_log.specs.declared.event.Event.{Event}
use Rattle.intern_log.specs.declared.event.What.{What}
use Rattle.intern_log.specs.declared.event.What.TheVariants as what
use Rattle.atomic_step.specs.declared.answer.Answer.{Answer}
use Rattle.atomic_step.specs.declared.answer.Answer.TheVariants as answer
use Rattle.atomic_step.specs.Run.{AreFitting, after_words}
use Rattle.atomic_step.specs.Turn.{next_in}
use Rattle.call_machine.specs.declared.begin.BeginStage.{BeginStage}
use Rattle.call_machine.specs.declared.begin.BeginStage.TheVariants as begin
use Rattle.call_machine.specs.declared.begin.Left.{Left}
use Rattle.call_machine.specs.declared.begin.Left.TheVariants as left
use Rattle.call_machine.specs.declared.begin.Task.{Task}
use Rattle.call_machine.specs.declared.begin.Task.TheVariants as task
use Rattle.call_machine.specs.declared.call.Call.{Call}
use Rattle.call_machine.specs.declared.caller.Caller.{Caller}
use Rattle.call_machine.specs.declared.grace.GraceStage.TheVariants.{RaiseCounter, LoadSection}
use Rattle.call_machine.specs.declared.machine.Machine.{Machine}
use Rattle.call_machine.specs.declared.machine.Machine.TheVariants as machine
use Rattle.call_machine.specs.declared.resize.Direction.{Direction}
use Rattle.call_machine.specs.declared.resize.Direction.TheVariants.{Grow, Shrink}
use Rattle.call_machine.specs.Begin.{begin_turn, answers, begun, goes_on, counted, taken, bounded}
use Rattle.call_machine.specs.Machine.{got_of, event_of}
use Rattle.call_machine.specs.SoundMachine.{FitsMachine}
use Rattle.call_machine.specs.WholeMachine.{machines}
use Rattle.call_machine.proofs.Machines.{got_is}
use Rattle.cht_core.specs.declared.table.Table.{Table}
use Rattle.cht_core.specs.Causes.{IsSpent, IsAtLevel}
use Rattle.cht_core.specs.Invariant.{events_of}
use Rattle.cht_core.specs.Past.{by}
use Rattle.cht_core.specs.Windows.{Somewhere, whats_by}
use Rattle.cht_core.proofs.Windows.{somewhere_on, at_end, whats_of, whats_by_waits, whats_by_step}
use Rattle.cht_run.specs.declared.sight.Sight.{Sight}
use Rattle.cht_run.specs.Beginnings.{task_of, bound_of, at_bound}
use Rattle.cht_run.specs.Begins.{first_of, caller_in}
use Rattle.cht_run.specs.History.{log_of}
use Rattle.cht_run.specs.Graces.{counter_in, IsUnspent, IsRaised}
use Rattle.cht_run.specs.Runs.{SaysAt, Finds, Ran}

-- a beginning at a stage
abbrev pub at : Caller → BeginStage → Machine
at caller s = machine.Begin (record { caller = caller; stage = s })

-- the level was this at a place of the window, and it is the bound, or it is not
abbrev pub IsLevelled : Table → ℕ → List Event → List Event → Type 0
IsLevelled t level seen window = Somewhere (IsAtLevel t level) seen window

abbrev pub Did : ℕ → List Event → List What → Type 0
Did i window did = whats_by i window ≡ did

-- how it ends, by what it answers and what it leaves
abbrev pub Ends : Table → ℕ → Option Task → List Event → List Event → Answer → Left → Type 0
Ends t i x seen window (answer.Spent counter) l = (l ≡ left.Nothing) × IsSpent t seen window counter × Did i window []
Ends t i x seen window answer.Busy l = (l ≡ left.Nothing) × (is_some x ≡ true) × IsUnspent t seen window × Did i window []
Ends t i x seen window (answer.AtMaximum level) l = (l ≡ left.Nothing) × (x ≡ Some task.Grow) × IsUnspent t seen window × IsLevelled t level seen window × (level ≡ t.shape.max_level)
    × Did i window (what.ResizeTaken ∷ what.ResizeGiven ∷ [])
Ends t i x seen window (answer.AtMinimum level) l = (l ≡ left.Nothing) × (x ≡ Some task.Shrink) × IsUnspent t seen window × IsLevelled t level seen window × (level ≡ t.shape.min_level)
    × Did i window (what.ResizeTaken ∷ what.ResizeGiven ∷ [])
Ends t i x seen window answer.Begun left.Nothing = ⊥
Ends t i x seen window answer.Begun left.Clean = (x ≡ Some task.Clean) × IsUnspent t seen window × Did i window (what.ResizeTaken ∷ [])
Ends t i x seen window answer.Begun (left.Resize d level) = (x ≡ Some (task_of d)) × IsUnspent t seen window × IsLevelled t level seen window × (level ≢ bound_of t d) × Did i window (what.ResizeTaken ∷ [])
Ends t i x seen window answer.Begun (left.Grace g) = (x ≡ None) × IsUnspent t seen window × IsRaised t i g.raised seen window × (g.next ≡ 0) × Did i window (what.Grace ∷ [])
Ends t i x seen window _ l = ⊥

-- what it knows at each stage
abbrev pub Knows : Table → ℕ → Option Task → List Event → List Event → BeginStage → Type 0
Knows t i x seen window (begin.LoadCounter y) = (x ≡ y) × Did i window []
Knows t i x seen window (begin.TakeResizeLock y) = (x ≡ Some y) × IsUnspent t seen window × Did i window []
Knows t i x seen window (begin.LoadLevel d) = (x ≡ Some (task_of d)) × IsUnspent t seen window × Did i window (what.ResizeTaken ∷ [])
Knows t i x seen window (begin.GiveResizeLock a) = IsUnspent t seen window × Did i window (what.ResizeTaken ∷ [])
    × ((d : Direction) × (level : ℕ) × (x ≡ Some (task_of d)) × (a ≡ at_bound d level) × IsLevelled t level seen window × (level ≡ bound_of t d))
Knows t i x seen window (begin.Grace g RaiseCounter) = (x ≡ None) × IsUnspent t seen window × Did i window []
Knows t i x seen window (begin.Grace g LoadSection) = ⊥
Knows t i x seen window (begin.Answered a l) = Ends t i x seen window a l

-- the window after a step
abbrev after : ℕ → List Event → List Event → Option What → List Event
after i window between e = (window ++ between) ++ events_of i e

-- it stays so by events of others
module _ (t : Table) (i : ℕ) (seen window more : List Event) (none : whats_by i more ≡ []) (x : Option Task) where
  was : (Says : List Event → Type 0) → Somewhere Says seen window → Somewhere Says seen (window ++ more)
  was Says h = somewhere_on seen window Says more h

  low_still : IsUnspent t seen window → IsUnspent t seen (window ++ more)
  low_still h = was (λ log. counter_in t log < 2 ^ 48) h

  did_still : (did : List What) → Did i window did → Did i (window ++ more) did
  did_still did h = whats_by_waits i window more none ∙ h

  ends_still : (a : Answer) (l : Left) → Ends t i x seen window a l → Ends t i x seen (window ++ more) a l
  ends_still (answer.Spent counter) l h = (h.0, (was (λ log. counter ≡ counter_in t log) h.1.0, h.1.1), did_still [] h.2)
  ends_still answer.Busy l h = (h.0, h.1, low_still h.2, did_still [] h.3)
  ends_still (answer.AtMaximum level) l (e, y, low, level_at, bound, did) = (e, y, low_still low, was (IsAtLevel t level) level_at, bound, did_still (what.ResizeTaken ∷ what.ResizeGiven ∷ []) did)
  ends_still (answer.AtMinimum level) l (e, y, low, level_at, bound, did) = (e, y, low_still low, was (IsAtLevel t level) level_at, bound, did_still (what.ResizeTaken ∷ what.ResizeGiven ∷ []) did)
  ends_still answer.Begun left.Nothing h = absurd h
  ends_still answer.Begun left.Clean h = (h.0, low_still h.1, did_still (what.ResizeTaken ∷ []) h.2)
  ends_still answer.Begun (left.Resize d level) (y, low, level_at, bound, did) = (y, low_still low, was (IsAtLevel t level) level_at, bound, did_still (what.ResizeTaken ∷ []) did)
  ends_still answer.Begun (left.Grace g) (y, low, (before, rest, is, raised), next, did) =
      (y, low_still low, (before, rest ++ more, ap (λ l. l ++ more) is ∙ append_assoc before (by i what.Grace ∷ rest) more, raised), next, did_still (what.Grace ∷ []) did)
  ends_still _ l h = absurd h

  waits : (s : BeginStage) → Knows t i x seen window s → Knows t i x seen (window ++ more) s
  waits (begin.LoadCounter y) h = (h.0, did_still [] h.1)
  waits (begin.TakeResizeLock y) h = (h.0, low_still h.1, did_still [] h.2)
  waits (begin.LoadLevel d) h = (h.0, low_still h.1, did_still (what.ResizeTaken ∷ []) h.2)
  waits (begin.GiveResizeLock a) (low, did, (d, level, is, same, level_at, bound)) = (low_still low, did_still (what.ResizeTaken ∷ []) did, (d, level, is, same, was (IsAtLevel t level) level_at, bound))
  waits (begin.Grace g RaiseCounter) h = (h.0, low_still h.1, did_still [] h.2)
  waits (begin.Grace g LoadSection) h = absurd h
  waits (begin.Answered a l) h = ends_still a l h

module _ (t : Table) (i : ℕ) (seen window between : List Event) (none : whats_by i between ≡ []) where
  -- what was so at a place is so at it still; and what is so as the step finds its word
  still : (Says : List Event → Type 0) (e : Option What) → Somewhere Says seen window → Somewhere Says seen (after i window between e)
  still Says e h = somewhere_on seen (window ++ between) Says (events_of i e) (somewhere_on seen window Says between h)

  found : (Says : List Event → Type 0) (e : Option What) → Says (seen ++ (window ++ between)) → Somewhere Says seen (after i window between e)
  found Says e h = somewhere_on seen (window ++ between) Says (events_of i e) (at_end seen (window ++ between) Says h)

  did_on : (e : Option What) (did : List What) → Did i window did → Did i (after i window between e) (did ++ whats_of e)
  did_on e did h = whats_by_step i (window ++ between) e ∙ ap (λ l. l ++ whats_of e) (whats_by_waits i window between none ∙ h)

  abbrev Low : List Event → Type 0
  Low log = counter_in t log < 2 ^ 48

  module _ (caller : Caller) (x : Option Task) (of : caller.shape ≡ t.shape) where
    -- after the load of the counter
    abbrev Goes : BeginStage → Option What → Type 0
    Goes s e = Knows t i x seen (after i window between e) s

    counts : (y : Option Task) (word : ℕ) → x ≡ y → Did i window [] → word ≡ counter_in t (seen ++ (window ++ between)) → Goes (counted y word) None
    counts y word is did says = go (nat_le (2 ^ 48) word) refl
      where
        goes : (z : Option Task) → x ≡ z → IsUnspent t seen (after i window between None) → Goes (goes_on z) None
        goes None is low = (is, low, did_on None [] did)
        goes (Some z) is low = (is, low, did_on None [] did)

        go : (b : Bool) → nat_le (2 ^ 48) word ≡ b → Goes (cond b (answers (answer.Spent word)) (goes_on y)) None
        go true great = (refl, (found (λ log. word ≡ counter_in t log) None says, leb-true (2 ^ 48) word great), did_on None [] did)
        go false small = let less = leb-false (2 ^ 48) word small in goes y is (found Low None (subst (λ n. n < 2 ^ 48) says (omega (arith, less))))

    takes : (y : Task) (word : ℕ) → x ≡ Some y → IsUnspent t seen window → Did i window [] → Goes (if word == 0 then taken y else answers answer.Busy) (if word == 0 then Some what.ResizeTaken else None)
    takes y word is low did = go (word == 0)
      where
        has : (z : Task) → x ≡ Some z → Goes (taken z) (Some what.ResizeTaken)
        has task.Clean is = (is, still Low (Some what.ResizeTaken) low, did_on (Some what.ResizeTaken) [] did)
        has task.Grow is = (is, still Low (Some what.ResizeTaken) low, did_on (Some what.ResizeTaken) [] did)
        has task.Shrink is = (is, still Low (Some what.ResizeTaken) low, did_on (Some what.ResizeTaken) [] did)

        go : (b : Bool) → Goes (cond b (taken y) (answers answer.Busy)) (cond b (Some what.ResizeTaken) None)
        go true = has y is
        go false = (refl, ap is_some is, still Low None low, did_on None [] did)

    levels : (d : Direction) (word : ℕ) → x ≡ Some (task_of d) → IsUnspent t seen window → Did i window (what.ResizeTaken ∷ []) → IsAtLevel t word (seen ++ (window ++ between)) → Goes (bounded caller.shape d word) None
    levels Grow word is low did says = go (word == caller.shape.max_level) refl
      where
        go : (b : Bool) → (word == caller.shape.max_level) ≡ b → Goes (cond b (begin.GiveResizeLock (answer.AtMaximum word)) (begun (left.Resize Grow word))) None
        go true same = (still Low None low, did_on None (what.ResizeTaken ∷ []) did, (Grow, word, is, refl, found (IsAtLevel t word) None says, eqb-true word caller.shape.max_level same ∙ ap (λ (shape : Shape). shape.max_level) of))
        go false differ = (
          is,
          still Low None low,
          found (IsAtLevel t word) None says,
          (λ same. let both : true ≡ false = sym (eq-eqb word caller.shape.max_level (same ∙ ap (λ (shape : Shape). shape.max_level) (sym of))) ∙ differ in absurd (cc)),
          did_on None (what.ResizeTaken ∷ []) did,
        )
    levels Shrink word is low did says = go (word == caller.shape.min_level) refl
      where
        go : (b : Bool) → (word == caller.shape.min_level) ≡ b → Goes (cond b (begin.GiveResizeLock (answer.AtMinimum word)) (begun (left.Resize Shrink word))) None
        go true same = (still Low None low, did_on None (what.ResizeTaken ∷ []) did, (Shrink, word, is, refl, found (IsAtLevel t word) None says, eqb-true word caller.shape.min_level same ∙ ap (λ (shape : Shape). shape.min_level) of))
        go false differ = (
          is,
          still Low None low,
          found (IsAtLevel t word) None says,
          (λ same. let both : true ≡ false = sym (eq-eqb word caller.shape.min_level (same ∙ ap (λ (shape : Shape). shape.min_level) (sym of))) ∙ differ in absurd (cc)),
          did_on None (what.ResizeTaken ∷ []) did,
        )

    gives : (d : Direction) (level : ℕ) → x ≡ Some (task_of d) → IsUnspent t seen window → Did i window (what.ResizeTaken ∷ []) → IsLevelled t level seen window → level ≡ bound_of t d →
        Goes (answers (at_bound d level)) (Some what.ResizeGiven)
    gives Grow level is low did was bound =
        (refl, is, still Low (Some what.ResizeGiven) low, still (IsAtLevel t level) (Some what.ResizeGiven) was, bound, did_on (Some what.ResizeGiven) (what.ResizeTaken ∷ []) did)
    gives Shrink level is low did was bound =
        (refl, is, still Low (Some what.ResizeGiven) low, still (IsAtLevel t level) (Some what.ResizeGiven) was, bound, did_on (Some what.ResizeGiven) (what.ResizeTaken ∷ []) did)

    -- what it knows after its step
    pub knows_step : (s : BeginStage) (word : ℕ) → Knows t i x seen window s → FitsMachine (at caller s) word → SaysAt t (at caller s) word (seen ++ (window ++ between)) →
        Goes (next_in s (begin_turn caller s) word) (event_of (at caller s) word)
    knows_step (begin.LoadCounter y) word h fits says = counts y word h.0 h.1 says.1
    knows_step (begin.TakeResizeLock y) word h fits says = takes y word h.0 h.1 h.2
    knows_step (begin.LoadLevel d) word h fits says = levels d word h.0 h.1 h.2 says.1
    knows_step (begin.GiveResizeLock a) word (low, did, (d, level, is, same, at_level, bound)) fits says =
        subst (λ b. Goes (answers b) (Some what.ResizeGiven)) (sym same) (gives d level is low did at_level bound)
    knows_step (begin.Grace g RaiseCounter) word h fits says =
        (h.0, still Low (Some what.Grace) h.1, (window ++ between, [], refl, ap (λ n. n + 2) says.1), refl, did_on (Some what.Grace) [] h.2)
    knows_step (begin.Grace g LoadSection) word h fits says = absurd h
    knows_step (begin.Answered a l) word h fits says = absurd fits

-- what it knows after all its steps
pub knows_all : (t : Table) (i : ℕ) (seen : List Event) (caller : Caller) (x : Option Task) → caller.shape ≡ t.shape → (words : List ℕ) (s : BeginStage) (window rest : List Event) → Knows t i x seen window s →
    AreFitting machines (at caller s) words → Finds t i (at caller s) words (seen ++ window) rest →
    (last : BeginStage) × (after_words machines (at caller s) words ≡ at caller last) × Knows t i x seen (window ++ rest) last
knows_all t i seen caller x of [] s window rest h fitting finds = (s, refl, waits t i seen window rest finds x s h)
knows_all t i seen caller x of (word ∷ words) s window rest h fitting (between, later, is, none, says, finds) =
    let e = event_of (at caller s) word in
    let next = next_in s (begin_turn caller s) word in
    let got : got_of (at caller s) word ≡ at caller next = got_is (at caller s) word in
    let now = after i window between e in
    let known = knows_step t i seen window between none caller x of s word h fitting.0.1 (subst (SaysAt t (at caller s) word) (append_assoc seen window between) says) in
    let place : ((seen ++ window) ++ between) ++ events_of i e ≡ seen ++ now =
    ap (λ l. l ++ events_of i e) (append_assoc seen window between) ∙ append_assoc seen (window ++ between) (events_of i e) in
    let (last, leads, knows) = knows_all t i seen caller x of words next now later known (subst (λ m. AreFitting machines m words) got fitting.1)
    (subst (λ l. Finds t i (at caller next) words l later) place (subst (λ m. Finds t i m words (((seen ++ window) ++ between) ++ events_of i e) later) got finds)) in (
      last,
      ap (λ m. after_words machines m words) got ∙ leads,
      subst (λ l. Knows t i x seen l last) (append_assoc (window ++ between) (events_of i e) later ∙ append_assoc window between (events_of i e ++ later) ∙ ap (λ l. window ++ l) (sym is)) knows,
    )

-- THE CALL OF A SEAT

-- where it stands
abbrev stage_of : Machine → BeginStage
stage_of (machine.Begin b) = b.stage
stage_of _ = answers answer.Busy

pub stage_same : (caller : Caller) (s r : BeginStage) → at caller s ≡ at caller r → s ≡ r
stage_same caller s r same = ap stage_of same

-- it has answered this, and left this
pub begun_ends : (b : Sight) (c : Call) (v : Sight) (a : Answer) (l : Left) (x : Option Task) (ran : Ran b c v (at (caller_in b) (begin.Answered a l))) → first_of b c ≡ at (caller_in b) (begin.LoadCounter x) →
    Ends b.origin.table b.number x (log_of b.history) (log_of ran.went.window) a l
begun_ends b c v a l x ran first =
    let t = b.origin.table in
    let caller = caller_in b in
    let seen = log_of b.history in
    let window = log_of ran.went.window in
    let (last, leads, knows) = knows_all t b.number seen caller x refl ran.words (begin.LoadCounter x) [] window (refl, refl) (subst (λ n. AreFitting machines n ran.words) first ran.fitting)
    (subst (λ n. Finds t b.number n ran.words (seen ++ []) window) first (subst (λ l. Finds t b.number (first_of b c) ran.words l window) (sym (append-nil seen)) ran.finds)) in
    let is : at caller last ≡ at caller (begin.Answered a l) = sym leads ∙ ap (λ n. after_words machines n ran.words) (sym first) ∙ ran.leads in
    subst (Knows t b.number x seen window) (stage_same caller last (begin.Answered a l) is) knows
