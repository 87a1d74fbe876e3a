-- Loads change nothing; and no step of a grow or a shrink is backed.
use Rattle.std.proofs.Common.{◌≡◌, ℕ, List, Option, None, refl, sym, subst}
use Rattle.intern_log.specs.declared.event.What.{What}
use Rattle.atomic_step.specs.declared.step.Step.{Step}
use Rattle.atomic_step.specs.declared.step.Step.TheVariants as step
use Rattle.atomic_step.specs.Event.{event_of}
use Rattle.cht_core.specs.declared.table.Table.{Table}
use Rattle.cht_core.specs.Backs.{KeepsTable, Goes, LeadsOn}
use Rattle.cht_core.specs.Flow.{Flow, flow_after, holds_after}
use Rattle.cht_core.specs.Memory.{Memory, found}
use Rattle.cht_core.specs.Past.{Past, told}
use Rattle.cht_core.specs.TableState.{IsTable}
use Rattle.cht_core.proofs.Basics.{after_load}
use Rattle.cht_core.proofs.Calm.{calm_leads}

-- a step with this event leads on where the event does
pub event_goes : (t : Table) (m m' : Memory) (p : Past) (f : Flow) (i : ℕ) (text : List ℕ) (s : Step) (e : Option What) → event_of text s (found s m) ≡ e
    → LeadsOn t m p f i s e m' (told p i e) (record (flow_after p.now f i text s (found s m)) { holds = holds_after i e f.holds }) → Goes t m p f i text s m'
event_goes t m m' p f i text s e is leads =
    subst (λ (x : Option What). LeadsOn t m p f i s x m' (told p i x) (record (flow_after p.now f i text s (found s m)) { holds = holds_after i x f.holds })) (sym is) leads

-- a step that leaves its word and has no event changes nothing, where its flow is what it was
pub idle_goes : (t : Table) (m m' : Memory) (p : Past) (f : Flow) (i : ℕ) (text : List ℕ) (s : Step) → m' ≡ m → event_of text s (found s m) ≡ None
    → record (flow_after p.now f i text s (found s m)) { holds = f.holds } ≡ f → IsTable t m p f → Goes t m p f i text s m'
idle_goes t m m' p f i text s same calm flows table = event_goes t m m' p f i text s None calm
    (subst (λ (now : Memory). LeadsOn t m p f i s None now p (record (flow_after p.now f i text s (found s m)) { holds = f.holds })) (sym same)
    (subst (λ (flow : Flow). LeadsOn t m p f i s None m p flow) (sym flows) (calm_leads t m p f i s table)))

-- a load of the number of draws keeps the table
pub load_draws_keeps : KeepsTable step.LoadDraws
load_draws_keeps t m m' p f i text table inside sound backs made = idle_goes t m m' p f i text step.LoadDraws (after_load step.LoadDraws m m' refl made) refl refl table

-- a load of the counter keeps the table
pub load_counter_keeps : KeepsTable step.LoadCounter
load_counter_keeps t m m' p f i text table inside sound backs made = idle_goes t m m' p f i text step.LoadCounter (after_load step.LoadCounter m m' refl made) refl refl table

-- a load of the level keeps the table
pub load_level_keeps : KeepsTable step.LoadLevel
load_level_keeps t m m' p f i text table inside sound backs made = idle_goes t m m' p f i text step.LoadLevel (after_load step.LoadLevel m m' refl made) refl refl table

-- a load of the new level keeps the table
pub load_new_level_keeps : KeepsTable step.LoadNewLevel
load_new_level_keeps t m m' p f i text table inside sound backs made = idle_goes t m m' p f i text step.LoadNewLevel (after_load step.LoadNewLevel m m' refl made) refl refl table

-- a load of a head keeps the table
pub load_head_keeps : (row bucket : ℕ) → KeepsTable (step.LoadHead row bucket)
load_head_keeps row bucket t m m' p f i text table inside sound backs made =
    idle_goes t m m' p f i text (step.LoadHead row bucket) (after_load (step.LoadHead row bucket) m m' refl made) refl refl table

-- a load of a link keeps the table
pub load_link_keeps : (slot : ℕ) → KeepsTable (step.LoadLink slot)
load_link_keeps slot t m m' p f i text table inside sound backs made = idle_goes t m m' p f i text (step.LoadLink slot) (after_load (step.LoadLink slot) m m' refl made) refl refl table

-- a load of a meta word keeps the table
pub load_meta_keeps : (slot : ℕ) → KeepsTable (step.LoadMeta slot)
load_meta_keeps slot t m m' p f i text table inside sound backs made = idle_goes t m m' p f i text (step.LoadMeta slot) (after_load (step.LoadMeta slot) m m' refl made) refl refl table

-- a load of a text word keeps the table
pub load_text_keeps : (slot at : ℕ) → KeepsTable (step.LoadText slot at)
load_text_keeps slot at t m m' p f i text table inside sound backs made =
    idle_goes t m m' p f i text (step.LoadText slot at) (after_load (step.LoadText slot at) m m' refl made) refl refl table

-- a load of a count keeps the table
pub load_count_keeps : (slot : ℕ) → KeepsTable (step.LoadCount slot)
load_count_keeps slot t m m' p f i text table inside sound backs made =
    idle_goes t m m' p f i text (step.LoadCount slot) (after_load (step.LoadCount slot) m m' refl made) refl refl table

-- a load of a section word keeps the table
pub load_section_keeps : (number : ℕ) → KeepsTable (step.LoadSection number)
load_section_keeps number t m m' p f i text table inside sound backs made =
    idle_goes t m m' p f i text (step.LoadSection number) (after_load (step.LoadSection number) m m' refl made) refl refl table
