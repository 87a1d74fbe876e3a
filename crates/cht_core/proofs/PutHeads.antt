-- The law of a new head: it is stored with its lock.
use Rattle.std.proofs.Common.{◌≡◌, ◌≢◌, ℕ, ◌+◌, ◌^◌, ◌<◌, ◌≤◌, ◌⊎◌, List, [], ◌∷◌, Option, None, refl, sym, ap, subst, ◌∙◌, inl, inr, arith}
use Rattle.intern_log.specs.declared.event.Handle.{Handle}
use Rattle.intern_log.specs.Now.{Now, Linked}
use Rattle.text_words.specs.Hash.{hash_of}
use Rattle.atomic_step.specs.declared.step.Step.TheVariants as step
use Rattle.atomic_step.specs.SoundStep.{IsSoundStep}
use Rattle.cht_core.specs.declared.table.Table.{Table}
use Rattle.cht_core.specs.Backs.{Goes, KeepsTable}
use Rattle.cht_core.specs.Chains.{Chains}
use Rattle.cht_core.specs.Flow.{Flow, IsUsed, IsHome, stage_put}
use Rattle.cht_core.specs.KnowsResize.{IsNewOfBucket, NoHead, Pair}
use Rattle.cht_core.specs.Memory.{Memory, IsMade}
use Rattle.cht_core.specs.Past.{Past}
use Rattle.cht_core.specs.Stage.{Stage, Growing, Shrinking, Joining, IsBehind, IsPinned, IsNearIn}
use Rattle.cht_core.specs.TableState.{IsTable}
use Rattle.cht_core.proofs.JoinState.{at_row, shrinking}
use Rattle.cht_core.proofs.JoinSteps.{past_at}
use Rattle.cht_core.proofs.Joins.{at_pair, of_pair}
use Rattle.cht_core.proofs.PutHeadState.{SameReach, same_reach, put_goes}

-- A GROW

-- callers come to none of the two new heads of a bucket
pub new_unused : (n : Now) (f : Flow) (b row bucket : ℕ) → f.stage ≡ Growing b → b < 2 ^ n.level → row ≡ n.level + 1 → (bucket ≡ b) ⊎ (bucket ≡ b + 2 ^ n.level) → IsUsed n f row bucket → ⊥
new_unused n f b row bucket stage below up side used = go (subst (λ (st : Stage). IsUsed n (record f { stage = st }) row bucket) stage used)
  where
    go : IsUsed n (record f { stage = Growing b }) row bucket → ⊥
    go (inl level) = let e : row ≡ n.level = level.0 in omega (arith, e, up)
    go (inr next) = elim next.1 [
      | inl low ↦ elim side [ inl e ↦ omega (arith, e, low) | inr e ↦ omega (arith, e, low) ]
      | inr high ↦ (let least : 2 ^ n.level ≤ bucket = high.0 in let most : bucket < b + 2 ^ n.level = high.1 in elim side [ inl e ↦ omega (arith, e, below, least) | inr e ↦ omega (arith, e, most) ])
    ]

-- a new head of a bucket
pub put_new_of_bucket : (t : Table) (m m' : Memory) (p : Past) (f : Flow) (i : ℕ) (text : List ℕ) (row bucket : ℕ) (first : Option ℕ) → IsTable t m p f → i < t.shape.seats
    → IsSoundStep t.shape i (step.PutHead row bucket first) → IsNewOfBucket p.now f i row bucket → IsMade (step.PutHead row bucket first) m m' → Goes t m p f i text (step.PutHead row bucket first) m'
put_new_of_bucket t m m' p f i text row bucket first table inside sound new made =
    let stage : f.stage ≡ Growing new.0 = new.2 in
    let up : row ≡ p.now.level + 1 = new.4 in
    let other : row ≢ p.now.level = λ e. omega (arith, e, up) in
    put_goes t m m' p f i row bucket first f.stage table made.here made.there new.1 (new_unused p.now f new.0 row bucket stage new.3 up new.5) new.6 other
    (λ old. other (subst (λ (st : Stage). IsBehind st p.now.level f.before row bucket) stage old).0) (same_reach p.now f) table.chains
    (λ r c pin. absurd (subst (λ (st : Stage). IsPinned st p.now.level r c) stage pin)) text inside sound made (ap (stage_put f.chain) stage ∙ sym stage)

-- A SHRINK

-- while a pair's even chain leads on to the odd one callers come where they came
joining_reach : (n : Now) (f : Flow) (k b : ℕ) → SameReach (at_row n k) (shrinking f k b) (Joining k b)
joining_reach n f k b = record {
  used = λ r c used. used;
  used_back = λ r c used. used;
  behind_back = λ r c old. old;
  gone_back = λ c gone. gone;
  name = refl;
  sent = λ hash sent. sent;
  row = refl;
  fits = λ since hash s fit. record {
    held = fit.held;
    near = λ text h born is. let was : IsNearIn (Shrinking k b) (k + 1) n.since since hash (hash_of n.seed text) = fit.near text h born is in (was.0, λ odd. was.1 odd.0);
    side = fit.side;
  };
  clear = λ clear. clear;
}

-- a pair without even nodes is joined as it is
joining_chains : (n : Now) (f : Flow) (k b : ℕ) → b < 2 ^ k → Chains (at_row n k) (shrinking f k b) → Chains (at_row n k) (record f { stage = Joining k b })
joining_chains n f k b below c0 = record {
  on_linked = λ r c s used on.
      let a : (text : List ℕ) × (h : Handle) × (at : ℕ) × (n.slot s ≡ Linked text h at) × IsHome (at_row n k) (shrinking f k b) r c (hash_of n.seed text) = c0.on_linked r c s used on in
      (a.0, a.1, a.2, a.3, elim a.4 [ inl e ↦ inl e | inr z ↦ absurd z ]);
  linked_on = c0.linked_on;
  once = c0.once;
  ranked = λ r c used. elim (c0.ranked r c used) [ inl z ↦ absurd z | inr y ↦ inr y ];
  bases = c0.bases;
  sides = c0.sides;
  loose = λ s. elim (c0.loose s) [ inl e ↦ inl e | inr e ↦ absurd e.4 ];
  within = (refl, below);
}

-- callers do not come to the new head of a pair
pub pair_unused : (n : Now) (f : Flow) (k b : ℕ) → IsUsed (at_row n k) (shrinking f k b) k b → ⊥
pair_unused n f k b used = elim used [ inl level ↦ (let e : k ≡ k + 1 = level.0 in omega (arith, e)) | inr next ↦ (let less : b < b = next.1 in omega (arith, less)) ]

pub pair_other : (k : ℕ) → k ≢ k + 1
pair_other k e = omega (arith, e)

pub pair_free : (m : Memory) (n : Now) (f : Flow) (i k b : ℕ) (even odd : Option ℕ) → Pair m (at_row n k) (shrinking f k b) i k b even odd (Shrinking k b) NoHead → n.lock k b ≡ None
pair_free m n f i k b even odd pair = pair.resizing.free k b (pair_unused n f k b) (λ none. none) (λ e. absurd (pair_other k e))

-- the stage then, by its even chain
pub put_empty : (chain : ℕ → ℕ → List ℕ) (k b : ℕ) → chain (k + 1) b ≡ [] → stage_put chain (Shrinking k b) ≡ Joining k b
put_empty chain k b e = ap (λ (l : List ℕ). stage_put (λ r c. l) (Shrinking k b)) e

pub put_full : (chain : ℕ → ℕ → List ℕ) (k b x : ℕ) (nodes : List ℕ) → chain (k + 1) b ≡ x ∷ nodes → stage_put chain (Shrinking k b) ≡ Shrinking k b
put_full chain k b x nodes e = ap (λ (l : List ℕ). stage_put (λ r c. l) (Shrinking k b)) e

-- the new head of a pair, by its even chain
put_new_at : (t : Table) (m m' : Memory) (p : Past) (f : Flow) (i : ℕ) (text : List ℕ) (k b : ℕ) (even odd first : Option ℕ) → IsTable t m (past_at p k) (shrinking f k b) → i < t.shape.seats
    → IsSoundStep t.shape i (step.PutHead k b first) → Pair m (at_row p.now k) (shrinking f k b) i k b even odd (Shrinking k b) NoHead → IsMade (step.PutHead k b first) m m'
    → (nodes : List ℕ) → f.chain (k + 1) b ≡ nodes → Goes t m (past_at p k) (shrinking f k b) i text (step.PutHead k b first) m'
put_new_at t m m' p f i text k b even odd first table inside sound pair made [] empty =
    put_goes t m m' (past_at p k) (shrinking f k b) i k b first (Joining k b) table made.here made.there pair.resizing.owner (pair_unused p.now f k b) (pair_free m p.now f i k b even odd pair) (pair_other k)
    (λ old. pair_other k old.0) (joining_reach p.now f k b) (joining_chains p.now f k b pair.below table.chains)
    (λ r c pin. (
      λ rows buckets. let e : r ≡ k + 1 = pin.0 in omega (arith, e, rows),
      (
        i,
        pair.resizing.owner,
        ap (λ (a : ℕ). p.now.lock a c) pin.0 ∙ elim pin.1 [
          | inl e ↦ ap (p.now.lock (k + 1)) e ∙ pair.low.0
          | inr e ↦ ap (p.now.lock (k + 1)) e ∙ pair.high.0
        ],
      ),
    )) text inside sound made (put_empty f.chain k b empty)
put_new_at t m m' p f i text k b even odd first table inside sound pair made (x ∷ nodes) full =
    put_goes t m m' (past_at p k) (shrinking f k b) i k b first (Shrinking k b) table made.here made.there pair.resizing.owner (pair_unused p.now f k b) (pair_free m p.now f i k b even odd pair) (pair_other k)
    (λ old. pair_other k old.0) (same_reach (at_row p.now k) (shrinking f k b)) table.chains (λ r c pin. absurd pin) text inside sound made (put_full f.chain k b x nodes full)

-- a new head is stored with its lock
pub put_head_keeps : (row bucket : ℕ) (first : Option ℕ) → KeepsTable (step.PutHead row bucket first)
put_head_keeps row bucket first t m m' p f i text table inside sound (inl new) made = put_new_of_bucket t m m' p f i text row bucket first table inside sound new made
put_head_keeps row bucket first t m m' p f i text table inside sound (inr new) made =
    let level : p.now.level ≡ row + 1 = new.2.resizing.at_level in
    let stage : f.stage ≡ Shrinking row bucket = new.2.resizing.at_stage in
    let at : IsTable t m (past_at p row) (shrinking f row bucket) = at_pair (λ (q : Past) (g : Flow). IsTable t m q g) p f row bucket level stage table in
    let pair : Pair m (past_at p row).now (shrinking f row bucket) i row bucket new.0 new.1 (Shrinking row bucket) NoHead =
    at_pair (λ (q : Past) (g : Flow). Pair m q.now g i row bucket new.0 new.1 (Shrinking row bucket) NoHead) p f row bucket level stage new.2 in
    of_pair (λ (q : Past) (g : Flow). Goes t m q g i text (step.PutHead row bucket first) m') p f row bucket level stage
    (put_new_at t m m' p f i text row bucket new.0 new.1 first at inside sound pair made (f.chain (row + 1) bucket) refl)
