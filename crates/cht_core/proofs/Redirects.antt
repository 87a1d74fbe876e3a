-- A redirect of a head keeps the table: that of a grow's bucket, and those of the even and the odd bucket of a shrink's pair.
use Rattle.std.proofs.Common.{◌≡◌, ◌≢◌, ℕ, ◌+◌, ◌-◌, ◌<◌, ◌≤◌, ◌^◌, inl, inr, Option, None, refl, sym, ap, subst, arith}
use Rattle.call_machine.specs.Resize.{joined_first}
use Rattle.table_shape.specs.declared.place.Place.TheVariants as place
use Rattle.atomic_step.specs.declared.step.Step.TheVariants as step
use Rattle.atomic_step.specs.SoundStep.{IsSoundStep}
use Rattle.atomic_step.specs.Step.{locked_head}
use Rattle.cht_core.specs.declared.table.Table.{Table}
use Rattle.cht_core.specs.Backs.{KeepsTable, Goes, LeadsOn}
use Rattle.cht_core.specs.Flow.{Flow}
use Rattle.cht_core.specs.KnowsResize.{HasSplit, HasPair, HasTurned, Joint}
use Rattle.cht_core.specs.Memory.{Memory, IsMade}
use Rattle.cht_core.specs.Past.{Past}
use Rattle.cht_core.specs.Stage.{Growing, Splitting, Shrinking, Joining, Turning, bucket_in}
use Rattle.cht_core.specs.TableState.{IsTable, Words}
use Rattle.cht_core.proofs.JoinState.{at_row}
use Rattle.cht_core.proofs.JoinSteps.{past_at}
use Rattle.cht_core.proofs.KeepsRow.{not_settled}
use Rattle.cht_core.proofs.RedirectEven.{joined_pair, even_chain, even_base, turning, even_chains, even_heads, even_routes, even_onward, even_based}
use Rattle.cht_core.proofs.RedirectFlows.{flow_at}
use Rattle.cht_core.proofs.RedirectOdd.{half_turned, shrunk, odd_chains, odd_heads, odd_routes, odd_onward}
use Rattle.cht_core.proofs.RedirectParts.{redirect_table, redirect_grows, redirect_spares}
use Rattle.cht_core.proofs.RedirectSplit.{growing, splitting, split_chain, split_base, split_chains, split_heads, split_routes, split_onward, split_based}
use Rattle.cht_core.proofs.WordsKept.{words_kept}
use Rattle.cht_core.proofs.Stages.{halves_low}

-- the words of a table stay ones that may stand in it: a redirect sets one mark of a locked head
redirect_words : (t : Table) (m m' : Memory) (p : Past) (f : Flow) (i row bucket : ℕ) (first : Option ℕ) → IsTable t m p f → i < t.shape.seats → IsSoundStep t.shape i (step.RedirectHead row bucket first) →
    m (place.Head row bucket) ≡ locked_head first → IsMade (step.RedirectHead row bucket first) m m' → Words t m'
redirect_words t m m' p f i row bucket first table inside sound word made =
    let fits : m (place.Head row bucket) < 2 ^ 64 = table.words.small (place.Head row bucket) in
    let before : m place.Counter ≤ 2 ^ 64 - 4 = table.words.counter in
    let counter : m' place.Counter ≡ m place.Counter = made.there place.Counter (λ same. cc) in
    words_kept t m m' i (step.RedirectHead row bucket first) table.words inside sound made (omega arith) (omega arith)

-- a bucket of a grow
split_leads : (t : Table) (m m' : Memory) (p : Past) (g : Flow) (i b : ℕ) (first : Option ℕ) → IsTable t m p (growing g b) → i < t.shape.seats → IsSoundStep t.shape i (step.RedirectHead p.now.level b first) →
    HasSplit m p.now (growing g b) i p.now.level b first → IsMade (step.RedirectHead p.now.level b first) m m' →
    LeadsOn t m p (growing g b) i (step.RedirectHead p.now.level b first) None m' p (splitting p.now g b)
split_leads t m m' p g i b first table inside sound split made =
    let parts = split_heads p.now g b m i first split table.heads in
    let words : Words t m' = redirect_words t m m' p (growing g b) i p.now.level b first table inside sound split.1.1 made in
    record {
      told = tt;
      table = redirect_table t m m' p (growing g b) (split_chain p.now g b) (split_base p.now g b) (Splitting b) i p.now.level b first table made.here made.there parts words
          (split_chains p.now g b split.0 table.tidy.linked table.chains) table.clear
          (not_settled p.now i (p.now.level + 1) b table.row split.4.owner split.2.0 (λ same. omega (arith, same)));
      grows = redirect_grows t m m' p (growing g b) (split_chain p.now g b) (split_base p.now g b) (Splitting b) i p.now.level b first table made.here made.there parts
          (λ at sought hash near. near) (split_routes p.now g b) (split_onward p.now g b) (split_based p.now g b m i first split table.heads table.clear);
      spares = redirect_spares t m m' p (growing g b) (split_chain p.now g b) (split_base p.now g b) (Splitting b) i p.now.level b first table made.here made.there parts;
      leaves = λ try. absurd try;
    }

-- the even bucket of a pair
even_leads : (t : Table) (m m' : Memory) (p : Past) (g : Flow) (i k b : ℕ) (first odd : Option ℕ) → IsTable t m (past_at p k) (joined_pair g k b) → i < t.shape.seats →
    IsSoundStep t.shape i (step.RedirectHead (k + 1) b first) → HasPair m (at_row p.now k) (joined_pair g k b) i k b first odd (Joining k b) → Joint m (joined_pair g k b) k b (joined_first first odd) →
    IsMade (step.RedirectHead (k + 1) b first) m m' →
    LeadsOn t m (past_at p k) (joined_pair g k b) i (step.RedirectHead (k + 1) b first) None m' (past_at p k) (turning p.now g k b)
even_leads t m m' p g i k b first odd table inside sound pair joint made =
    let parts = even_heads p.now g k b m i first odd pair joint table.heads in
    let words : Words t m' = redirect_words t m m' (past_at p k) (joined_pair g k b) i (k + 1) b first table inside sound pair.0.low.1 made in
    record {
      told = tt;
      table = redirect_table t m m' (past_at p k) (joined_pair g k b) (even_chain p.now g k b) (even_base p.now g k b) (Turning k b) i (k + 1) b first table made.here made.there parts words
          (even_chains p.now g k b m i first odd pair joint table.heads table.tidy.linked table.chains) table.clear (λ settled. table.whole settled);
      grows = redirect_grows t m m' (past_at p k) (joined_pair g k b) (even_chain p.now g k b) (even_base p.now g k b) (Turning k b) i (k + 1) b first table made.here made.there parts
          (λ at sought hash near. near) (even_routes p.now g k b) (even_onward p.now g k b) (even_based p.now g k b table.clear);
      spares = redirect_spares t m m' (past_at p k) (joined_pair g k b) (even_chain p.now g k b) (even_base p.now g k b) (Turning k b) i (k + 1) b first table made.here made.there parts;
      leaves = λ try. absurd try;
    }

-- a text of a pair above one is of neither of its buckets
above_pair : (k b hash : ℕ) → b < 2 ^ k → b + 1 ≤ bucket_in k hash → (b ≤ bucket_in k hash) × (bucket_in (k + 1) hash ≢ b)
above_pair k b hash below above = (omega (arith, above), λ low. let mine : bucket_in k hash ≡ b = halves_low hash k b below low in omega (arith, mine, above))

-- the odd bucket of a pair
odd_leads : (t : Table) (m m' : Memory) (p : Past) (g : Flow) (i k b : ℕ) (even first : Option ℕ) → IsTable t m (past_at p k) (half_turned g k b) → i < t.shape.seats →
    IsSoundStep t.shape i (step.RedirectHead (k + 1) (b + 2 ^ k) first) → HasTurned m (at_row p.now k) (half_turned g k b) i k b even first → IsMade (step.RedirectHead (k + 1) (b + 2 ^ k) first) m m' →
    LeadsOn t m (past_at p k) (half_turned g k b) i (step.RedirectHead (k + 1) (b + 2 ^ k) first) None m' (past_at p k) (shrunk g k b)
odd_leads t m m' p g i k b even first table inside sound turned made =
    let parts = odd_heads p.now g k b m i even first turned in
    let words : Words t m' = redirect_words t m m' (past_at p k) (half_turned g k b) i (k + 1) (b + 2 ^ k) first table inside sound turned.1.1 made in
    record {
      told = tt;
      table = redirect_table t m m' (past_at p k) (half_turned g k b) g.chain g.base (Shrinking k (b + 1)) i (k + 1) (b + 2 ^ k) first table made.here made.there parts words
          (odd_chains p.now g k b m i even first turned table.chains) table.clear (λ settled. table.whole settled);
      grows = redirect_grows t m m' (past_at p k) (half_turned g k b) g.chain g.base (Shrinking k (b + 1)) i (k + 1) (b + 2 ^ k) first table made.here made.there parts
          (λ at sought hash near. (near.0, λ above. near.1 (above_pair k b sought turned.0 above))) (odd_routes p.now g k b m i even first turned) (odd_onward p.now g k b m i even first turned) (λ j hash r o inside routed. refl);
      spares = redirect_spares t m m' (past_at p k) (half_turned g k b) g.chain g.base (Shrinking k (b + 1)) i (k + 1) (b + 2 ^ k) first table made.here made.there parts;
      leaves = λ try. absurd try;
    }

-- a past at a level that it has is that past
past_is : (p : Past) (k : ℕ) → p.now.level ≡ k + 1 → p ≡ past_at p k
past_is p k is = ap (λ (x : ℕ). record p { now = record p.now { level = x } }) is

-- a redirect keeps the table
pub redirect_head_keeps : (row bucket : ℕ) (first : Option ℕ) → KeepsTable (step.RedirectHead row bucket first)
redirect_head_keeps row bucket first t m m' p f i text table inside sound backs made = elim backs [
  | inl a ↦ subst (λ (r : ℕ). IsTable t m p f → IsSoundStep t.shape i (step.RedirectHead r bucket first) → HasSplit m p.now f i r bucket first → IsMade (step.RedirectHead r bucket first) m m' →
      Goes t m p f i text (step.RedirectHead r bucket first) m') (sym a.0) split_goes table sound a.1 made
  | inr other ↦ elim other [
    | inl a ↦ subst (λ (r : ℕ). IsTable t m p f → IsSoundStep t.shape i (step.RedirectHead r bucket first) → IsMade (step.RedirectHead r bucket first) m m' → Goes t m p f i text (step.RedirectHead r bucket first) m')
        (sym a.2) (even_goes a.0 a.1 a.3 a.4) table sound made
    | inr a ↦ subst (λ (r : ℕ). IsTable t m p f → IsSoundStep t.shape i (step.RedirectHead r bucket first) → IsMade (step.RedirectHead r bucket first) m m' → Goes t m p f i text (step.RedirectHead r bucket first) m')
        (sym a.3) (subst (λ (c : ℕ). IsTable t m p f → IsSoundStep t.shape i (step.RedirectHead (a.0 + 1) c first) → IsMade (step.RedirectHead (a.0 + 1) c first) m m' →
        Goes t m p f i text (step.RedirectHead (a.0 + 1) c first) m') (sym a.4) (odd_goes a.0 a.1 a.2 a.5)) table sound made
  ]
]
  where
    split_goes : IsTable t m p f → IsSoundStep t.shape i (step.RedirectHead p.now.level bucket first) → HasSplit m p.now f i p.now.level bucket first → IsMade (step.RedirectHead p.now.level bucket first) m m' →
        Goes t m p f i text (step.RedirectHead p.now.level bucket first) m'
    split_goes table sound split made =
        let e : f ≡ growing f bucket = flow_at f (Growing bucket) split.4.at_stage in
        subst (λ (x : Flow). Goes t m p x i text (step.RedirectHead p.now.level bucket first) m') (sym e)
        (split_leads t m m' p f i bucket first (subst (IsTable t m p) e table) inside sound (subst (λ (x : Flow). HasSplit m p.now x i p.now.level bucket first) e split) made)

    even_goes : (k : ℕ) (odd : Option ℕ) → HasPair m p.now f i k bucket first odd (Joining k bucket) → Joint m f k bucket (joined_first first odd) → IsTable t m p f →
        IsSoundStep t.shape i (step.RedirectHead (k + 1) bucket first) → IsMade (step.RedirectHead (k + 1) bucket first) m m' → Goes t m p f i text (step.RedirectHead (k + 1) bucket first) m'
    even_goes k odd pair joint table sound made =
        let e : f ≡ joined_pair f k bucket = flow_at f (Joining k bucket) pair.0.resizing.at_stage in
        let d : p ≡ past_at p k = past_is p k pair.0.resizing.at_level in
        subst (λ (q : Past). Goes t m q f i text (step.RedirectHead (k + 1) bucket first) m') (sym d)
        (subst (λ (x : Flow). Goes t m (past_at p k) x i text (step.RedirectHead (k + 1) bucket first) m') (sym e)
        (even_leads t m m' p f i k bucket first odd (subst (λ (q : Past). IsTable t m q (joined_pair f k bucket)) d (subst (IsTable t m p) e table)) inside sound
        (subst (λ (q : Past). HasPair m q.now (joined_pair f k bucket) i k bucket first odd (Joining k bucket)) d (subst (λ (x : Flow). HasPair m p.now x i k bucket first odd (Joining k bucket)) e pair))
        (subst (λ (x : Flow). Joint m x k bucket (joined_first first odd)) e joint) made))

    odd_goes : (k b : ℕ) (even : Option ℕ) → HasTurned m p.now f i k b even first → IsTable t m p f →
        IsSoundStep t.shape i (step.RedirectHead (k + 1) (b + 2 ^ k) first) → IsMade (step.RedirectHead (k + 1) (b + 2 ^ k) first) m m' → Goes t m p f i text (step.RedirectHead (k + 1) (b + 2 ^ k) first) m'
    odd_goes k b even turned table sound made =
        let e : f ≡ half_turned f k b = flow_at f (Turning k b) turned.3.at_stage in
        let d : p ≡ past_at p k = past_is p k turned.3.at_level in
        subst (λ (q : Past). Goes t m q f i text (step.RedirectHead (k + 1) (b + 2 ^ k) first) m') (sym d)
        (subst (λ (x : Flow). Goes t m (past_at p k) x i text (step.RedirectHead (k + 1) (b + 2 ^ k) first) m') (sym e)
        (odd_leads t m m' p f i k b even first (subst (λ (q : Past). IsTable t m q (half_turned f k b)) d (subst (IsTable t m p) e table)) inside sound
        (subst (λ (q : Past). HasTurned m q.now (half_turned f k b) i k b even first) d (subst (λ (x : Flow). HasTurned m p.now x i k b even first) e turned)) made))
