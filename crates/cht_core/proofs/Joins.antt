-- The law of a join of a pair's chains, and what the shrink knows after it.
use Rattle.std.proofs.Common.{◌≡◌, ℕ, ◌+◌, ◌-◌, ◌^◌, ◌<◌, ◌≤◌, List, Option, None, sym, subst, inl, arith}
use Rattle.chain_core.specs.Nodes.{On}
use Rattle.marked_word.specs.Link.{link_word}
use Rattle.table_shape.specs.declared.place.Place.TheVariants as place
use Rattle.intern_log.specs.Now.{Now}
use Rattle.atomic_step.specs.declared.step.Step.TheVariants as step
use Rattle.call_machine.specs.declared.resize.JoinStage.TheVariants as join
use Rattle.call_machine.specs.declared.resize.ResizeAlong.{ResizeAlong}
use Rattle.call_machine.specs.declared.resize.ResizeStage.TheVariants.{Join, RedirectHead}
use Rattle.call_machine.specs.declared.resize.Side.TheVariants.{Even}
use Rattle.call_machine.specs.Resize.{joined_first}
use Rattle.cht_core.specs.declared.table.Table.{Table}
use Rattle.cht_core.specs.Backs.{Goes, KeepsTable}
use Rattle.cht_core.specs.Flow.{Flow, IsUsed, flow_after}
use Rattle.cht_core.specs.KnowsResize.{HasPair, Joint, KnowsShrink, MayJoin, OneHead, Pair, evens, odds}
use Rattle.cht_core.specs.Memory.{Memory, IsMade, found}
use Rattle.cht_core.specs.Past.{Past}
use Rattle.cht_core.specs.Search.{IsLinked}
use Rattle.cht_core.specs.Stage.{Stage, Shrinking, Joining, IsLeft}
use Rattle.cht_core.specs.TableState.{IsTable, Words}
use Rattle.cht_core.proofs.JoinState.{shrinking}
use Rattle.cht_core.proofs.JoinSteps.{past_at, join_grows, join_spares, join_table, join_pair, join_joint}
use Rattle.cht_core.proofs.Stages.{next_row_size}
use Rattle.cht_core.proofs.WordsKept.{slots_few, word_kept, words_kept}

-- what holds at a level and a stage of a shrink that are known, by those of the table; and back
pub at_pair : (P : Past → Flow → Type 0) (p : Past) (f : Flow) (k b : ℕ) → p.now.level ≡ k + 1 → f.stage ≡ Shrinking k b → P p f → P (past_at p k) (shrinking f k b)
at_pair P p f k b level stage h =
    subst (λ (st : Stage). P (past_at p k) (record f { stage = st })) stage (subst (λ (l : ℕ). P (record p { now = record p.now { level = l } }) f) level h)

pub of_pair : (P : Past → Flow → Type 0) (p : Past) (f : Flow) (k b : ℕ) → p.now.level ≡ k + 1 → f.stage ≡ Shrinking k b → P (past_at p k) (shrinking f k b) → P p f
of_pair P p f k b level stage h =
    subst (λ (l : ℕ). P (record p { now = record p.now { level = l } }) f) (sym level) (subst (λ (st : Stage). P (past_at p k) (record f { stage = st })) (sym stage) h)

-- callers come to the even head of a pair that is not redirected, and so the nodes of its chain are linked
pub pair_used : (m : Memory) (n : Now) (f : Flow) (i k b : ℕ) (even odd : Option ℕ) (except : ℕ → ℕ → Type 0) → Pair m n f i k b even odd (Shrinking k b) except → IsUsed n f (k + 1) b
pair_used m n f i k b even odd except pair =
    let less : b < 2 ^ k = pair.below in
    let size : 2 ^ (k + 1) ≡ 2 ^ k + 2 ^ k = next_row_size k in
    inl (sym pair.resizing.at_level, subst (λ (st : Stage). IsLeft st b) (sym pair.resizing.at_stage) (omega arith, inl less), omega (arith, size, less))

pub join_linked : (t : Table) (m : Memory) (p : Past) (f : Flow) (i x : ℕ) (next : Option ℕ) → IsTable t m p f → MayJoin m p.now f i x next → IsLinked p.now x
join_linked t m p f i x next table may =
    let is = table.chains.on_linked (may.0 + 1) may.1 x (pair_used m p.now f i may.0 may.1 may.2 next (OneHead may.0 may.1) may.3.0) may.4 in
    (is.0, is.1, is.2, is.3)

-- the last even node of a locked pair is led to the odd chain
pub join_chains_keeps : (slot : ℕ) (next : Option ℕ) → KeepsTable (step.JoinChains slot next)
join_chains_keeps slot next t m m' p f i text table inside sound backs made =
    let k : ℕ = backs.0 in
    let b : ℕ = backs.1 in
    let even : Option ℕ = backs.2 in
    let level : p.now.level ≡ k + 1 = backs.3.0.resizing.at_level in
    let stage : f.stage ≡ Shrinking k b = backs.3.0.resizing.at_stage in
    let at : IsTable t m (past_at p k) (shrinking f k b) = at_pair (λ (q : Past) (g : Flow). IsTable t m q g) p f k b level stage table in
    let pair : HasPair m (past_at p k).now (shrinking f k b) i k b even next (Shrinking k b) =
    at_pair (λ (q : Past) (g : Flow). HasPair m q.now g i k b even next (Shrinking k b)) p f k b level stage backs.3 in
    let few : t.shape.slots ≤ 2 ^ 27 = slots_few t.shape table.shape in
    let link : link_word next ≤ t.shape.slots = word_kept t.shape i (step.JoinChains slot next) (m (place.Link slot)) inside sound (table.words.sound (place.Link slot)) in
    let same : m' place.Counter ≡ m place.Counter = made.there place.Counter (λ same. cc) in
    let before : m place.Counter ≤ 2 ^ 64 - 4 = table.words.counter in
    let words : Words t m' = words_kept t m m' i (step.JoinChains slot next) table.words inside sound made (omega (arith, few, link)) (omega (arith, same, before)) in
    of_pair (λ (q : Past) (g : Flow). Goes t m q g i text (step.JoinChains slot next) m') p f k b level stage (record {
      told = tt;
      table = join_table t m m' p f i k b slot even next at pair backs.4 backs.5 made.here made.there words;
      grows = join_grows t m m' p f i k b slot even next at pair backs.4 backs.5 made.here made.there;
      spares = join_spares t m m' p f i k b slot even next at pair backs.4 backs.5 made.here made.there;
      leaves = λ no. absurd no;
    })

-- what the shrink knows after the join
pub join_knows : (t : Table) (m m' : Memory) (p : Past) (f : Flow) (i : ℕ) (text : List ℕ) (k b x : ℕ) (even odd : Option ℕ) → IsTable t m p f → HasPair m p.now f i k b even odd (Shrinking k b)
    → On x (f.chain (k + 1) b) → m (place.Link x) ≡ link_word None → IsMade (step.JoinChains x odd) m m'
    → HasPair m' p.now (flow_after p.now f i text (step.JoinChains x odd) (found (step.JoinChains x odd) m)) i k b even odd (Joining k b)
    × Joint m' (flow_after p.now f i text (step.JoinChains x odd) (found (step.JoinChains x odd) m)) k b (joined_first even odd)
join_knows t m m' p f i text k b x even odd table pair on last made =
    let level : p.now.level ≡ k + 1 = pair.0.resizing.at_level in
    let stage : f.stage ≡ Shrinking k b = pair.0.resizing.at_stage in
    let at : IsTable t m (past_at p k) (shrinking f k b) = at_pair (λ (q : Past) (g : Flow). IsTable t m q g) p f k b level stage table in
    let here : HasPair m (past_at p k).now (shrinking f k b) i k b even odd (Shrinking k b) =
    at_pair (λ (q : Past) (g : Flow). HasPair m q.now g i k b even odd (Shrinking k b)) p f k b level stage pair in
    of_pair (λ (q : Past) (g : Flow). HasPair m' q.now (flow_after q.now g i text (step.JoinChains x odd) (found (step.JoinChains x odd) m)) i k b even odd (Joining k b)
    × Joint m' (flow_after q.now g i text (step.JoinChains x odd) (found (step.JoinChains x odd) m)) k b (joined_first even odd)) p f k b level stage
    (join_pair t m m' p f i k b x even odd at here on last made.here made.there, join_joint t m m' p f i k b x even odd at here on last made.here made.there)

-- in the words of its stages
pub shrink_join : (t : Table) (m m' : Memory) (p : Past) (f : Flow) (i : ℕ) (text : List ℕ) (k x : ℕ) (w : ResizeAlong) → IsTable t m p f → KnowsShrink m p.now f i k w (Join (join.JoinChains x))
    → IsMade (step.JoinChains x (odds w)) m m'
    → KnowsShrink m' p.now (flow_after p.now f i text (step.JoinChains x (odds w)) (found (step.JoinChains x (odds w)) m)) i k w (RedirectHead Even)
shrink_join t m m' p f i text k x w table known made = join_knows t m m' p f i text k w.bucket x (evens w) (odds w) table known.0 known.1 known.2 made
