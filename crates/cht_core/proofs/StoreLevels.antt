-- The level is stored after the last bucket or the last pair.
use Rattle.std.proofs.Common.{◌≡◌, ℕ, ◌+◌, ◌-◌, ◌^◌, ◌<◌, ◌≤◌, ◌⊎◌, Some, sym, ap, subst, ◌∙◌, inl, inr, arith}
use Rattle.table_shape.specs.declared.place.Place.TheVariants as place
use Rattle.intern_log.specs.declared.event.What.TheVariants as what
use Rattle.atomic_step.specs.declared.step.Step.TheVariants as step
use Rattle.atomic_step.specs.SoundStep.{IsSoundStep}
use Rattle.cht_core.specs.declared.table.Table.{Table}
use Rattle.cht_core.specs.Backs.{KeepsTable}
use Rattle.cht_core.specs.Flow.{Flow}
use Rattle.cht_core.specs.KnowsResize.{Resizing, NoHead, MayStoreLevel}
use Rattle.cht_core.specs.Memory.{Memory, IsMade}
use Rattle.cht_core.specs.Past.{Past, MayTell, kind_of}
use Rattle.cht_core.specs.Stage.{Stage, Growing, Shrinking, next_row, IsGone, IsLeft, IsOpen, IsJoined, IsOnTwo, IsSent, IsWhole}
use Rattle.cht_core.specs.TableState.{IsTable, IsClear}
use Rattle.cht_core.proofs.LevelStores.{Stores, stored_table, stored_grows, stored_spares}
use Rattle.cht_core.proofs.LevelWords.{IsLevelWord}
use Rattle.cht_core.proofs.LockSteps.{owner_resizes}
use Rattle.cht_core.proofs.Stages.{row_up, below_or, bucket_below, next_row_size}
use Rattle.cht_core.proofs.TidyKept.{tidy_told}
use Rattle.cht_core.proofs.WordsKept.{words_kept}

-- a head to which callers come, at a stage
abbrev pub UsedAt : Stage → ℕ → ℕ → ℕ → Type 0
UsedAt st l row b = ((row ≡ l) × IsLeft st b × (b < 2 ^ row)) ⊎ ((row ≡ next_row st l) × IsOpen st l b)

-- WHERE CALLERS COME

-- once each bucket is redirected, callers come to the next row alone
pub grown_used : (l row b : ℕ) → UsedAt (Growing (2 ^ l)) l row b → (row ≡ l + 1) × (b < 2 ^ row)
grown_used l row b used = elim used [
  | inl a ↦ absurd (let high : 2 ^ l ≤ b = a.1 in let low : b < 2 ^ l = subst (λ (r : ℕ). b < 2 ^ r) a.0 a.2 in omega (arith, high, low))
  | inr a ↦ (
      let twice : 2 ^ (l + 1) ≡ 2 ^ l + 2 ^ l = next_row_size l in
      let below : b < 2 ^ (l + 1) = elim a.1 [ inl x ↦ omega (arith, twice, x) | inr x ↦ (let high : b < 2 ^ l + 2 ^ l = x.1 in omega (arith, twice, high)) ] in
      (a.0, subst (λ (r : ℕ). b < 2 ^ r) (sym a.0) below))
]

grown_back : (l row b : ℕ) → row ≡ l + 1 → b < 2 ^ row → UsedAt (Growing (2 ^ l)) l row b
grown_back l row b here below =
    let twice : 2 ^ (l + 1) ≡ 2 ^ l + 2 ^ l = next_row_size l in
    let less : b < 2 ^ (l + 1) = subst (λ (r : ℕ). b < 2 ^ r) here below in
    inr (here, elim (below_or b (2 ^ l)) [ inl x ↦ inl x | inr x ↦ inr (x, omega (arith, twice, less)) ])

-- and so to the one before once each pair is
pub shrunk_used : (k l row b : ℕ) → l ≡ k + 1 → UsedAt (Shrinking k (2 ^ k)) l row b → (row ≡ k) × (b < 2 ^ row)
shrunk_used k l row b up used = elim used [
  | inl a ↦ absurd (
      let twice : 2 ^ (k + 1) ≡ 2 ^ k + 2 ^ k = next_row_size k in
      let less : b < 2 ^ (k + 1) = subst (λ (r : ℕ). b < 2 ^ r) (a.0 ∙ up) a.2 in
      let least : 2 ^ k ≤ b = a.1.0 in
      elim a.1.1 [ inl x ↦ omega (arith, x, least) | inr x ↦ omega (arith, x, twice, less) ])
  | inr a ↦ (a.0, subst (λ (r : ℕ). b < 2 ^ r) (sym a.0) a.1)
]

shrunk_back : (k l row b : ℕ) → row ≡ k → b < 2 ^ row → UsedAt (Shrinking k (2 ^ k)) l row b
shrunk_back k l row b here below = inr (here, subst (λ (r : ℕ). b < 2 ^ r) here below)

shrunk_gone : (k l b : ℕ) → l ≡ k + 1 → b < 2 ^ l → IsGone (Shrinking k (2 ^ k)) b
shrunk_gone k l b up below =
    let twice : 2 ^ (k + 1) ≡ 2 ^ k + 2 ^ k = next_row_size k in
    let less : b < 2 ^ (k + 1) = subst (λ (r : ℕ). b < 2 ^ r) up below in
    elim (below_or b (2 ^ k)) [ inl x ↦ inl x | inr x ↦ inr (x, omega (arith, twice, less)) ]

-- THE STEP

grow_stores : (t : Table) (m m' : Memory) (p : Past) (f : Flow) (i new : ℕ) → IsTable t m p f → IsSoundStep t.shape i (step.StoreLevel new) → IsMade (step.StoreLevel new) m m'
    → new ≡ p.now.level + 1 → Resizing p.now f i p.now.level (Growing (2 ^ p.now.level)) NoHead → Stores t m m' p f i new
grow_stores t m m' p f i new table sound made up known =
    let stage : f.stage ≡ Growing (2 ^ p.now.level) = known.at_stage in
    record {
      others = λ q not. made.there q (λ is. not (subst IsLevelWord (sym is) tt));
      level = made.here;
      word = made.there place.NewLevel (λ e. cc);
      owner = known.owner;
      next = ap (λ (st : Stage). next_row st p.now.level) stage ∙ sym up;
      used = λ row b used. let at : (row ≡ p.now.level + 1) × (b < 2 ^ row) = grown_used p.now.level row b (subst (λ (st : Stage). UsedAt st p.now.level row b) stage used) in (at.0 ∙ sym up, at.1);
      back = λ row b here below. subst (λ (st : Stage). UsedAt st p.now.level row b) (sym stage) (grown_back p.now.level row b (here ∙ up) below);
      sent = λ hash. subst (λ (st : Stage). IsSent st p.now.level hash) (sym stage) (bucket_below p.now.level hash);
      gone = λ b below. subst (λ (st : Stage). IsGone st b) (sym stage) below;
      one = λ hash two. subst (λ (st : Stage). IsOnTwo st p.now.level hash) stage two;
      apart = λ row b joined. subst (λ (st : Stage). IsJoined st row b) stage joined;
      begun = λ whole. let none : 2 ^ p.now.level ≡ 0 = subst IsWhole stage whole in let some : 0 < 2 ^ p.now.level = row_up p.now.level in omega (arith, none, some);
      clear = subst (λ (st : Stage). IsClear st p.now) stage table.clear;
      within = sound.2;
    }

shrink_stores : (t : Table) (m m' : Memory) (p : Past) (f : Flow) (i new : ℕ) → IsTable t m p f → IsSoundStep t.shape i (step.StoreLevel new) → IsMade (step.StoreLevel new) m m'
    → Resizing p.now f i (new + 1) (Shrinking new (2 ^ new)) NoHead → Stores t m m' p f i new
shrink_stores t m m' p f i new table sound made known =
    let stage : f.stage ≡ Shrinking new (2 ^ new) = known.at_stage in
    let up : p.now.level ≡ new + 1 = known.at_level in
    record {
      others = λ q not. made.there q (λ is. not (subst IsLevelWord (sym is) tt));
      level = made.here;
      word = made.there place.NewLevel (λ e. cc);
      owner = known.owner;
      next = ap (λ (st : Stage). next_row st p.now.level) stage;
      used = λ row b used. shrunk_used new p.now.level row b up (subst (λ (st : Stage). UsedAt st p.now.level row b) stage used);
      back = λ row b here below. subst (λ (st : Stage). UsedAt st p.now.level row b) (sym stage) (shrunk_back new p.now.level row b here below);
      sent = λ hash. subst (λ (st : Stage). IsSent st p.now.level hash) (sym stage) (bucket_below new hash);
      gone = λ b below. subst (λ (st : Stage). IsGone st b) (sym stage) (shrunk_gone new p.now.level b up below);
      one = λ hash two. subst (λ (st : Stage). IsOnTwo st p.now.level hash) stage two;
      apart = λ row b joined. subst (λ (st : Stage). IsJoined st row b) stage joined;
      begun = λ whole. let none : 2 ^ new ≡ 0 = subst IsWhole stage whole in let some : 0 < 2 ^ new = row_up new in omega (arith, none, some);
      clear = subst (λ (st : Stage). IsClear st p.now) stage table.clear;
      within = sound.2;
    }

-- the owner of the resize lock may store a level next to that of the table
pub may_store : (t : Table) (m m' : Memory) (p : Past) (f : Flow) (i new : ℕ) → IsTable t m p f → IsSoundStep t.shape i (step.StoreLevel new) → IsMade (step.StoreLevel new) m m' → MayStoreLevel p.now f i new
    → ((new ≡ p.now.level + 1) ⊎ (p.now.level ≡ new + 1)) × Stores t m m' p f i new
may_store t m m' p f i new table sound made backs = elim backs [
  | inl grow ↦ (inl grow.0, grow_stores t m m' p f i new table sound made grow.0 grow.1)
  | inr shrink ↦ (inr shrink.at_level, shrink_stores t m m' p f i new table sound made shrink)
]

-- a store of the level keeps the table
pub store_level_keeps : (level : ℕ) → KeepsTable (step.StoreLevel level)
store_level_keeps new t m m' p f i text table inside sound backs made =
    let may : ((new ≡ p.now.level + 1) ⊎ (p.now.level ≡ new + 1)) × Stores t m m' p f i new = may_store t m m' p f i new table sound made backs in
    let tells : MayTell (kind_of t) p i (Some (what.Level new)) = (owner_resizes p.now i may.1.owner, may.0, sound.2.0, sound.2.1) in
    let most : new ≤ t.shape.max_level = sound.2.1 in
    let few : t.shape.max_level ≤ 20 = table.shape.levels.1 in
    let counter : m' place.Counter ≡ m place.Counter = made.there place.Counter (λ e. cc) in
    let before : m place.Counter ≤ 2 ^ 64 - 4 = table.words.counter in
    record {
      told = tells;
      table = stored_table t m m' p f i new table may.1 (tidy_told t p i (Some (what.Level new)) table.tidy tells)
          (words_kept t m m' i (step.StoreLevel new) table.words inside sound made (omega (arith, most, few)) (omega (arith, counter, before)));
      grows = stored_grows t m m' p f i new table may.1;
      spares = stored_spares t m m' p f i new table may.1;
      leaves = λ try. absurd try;
    }
