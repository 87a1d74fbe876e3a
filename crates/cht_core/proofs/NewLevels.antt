-- The new level is told, and told no more.
use Rattle.std.proofs.Common.{◌≡◌, ℕ, ◌+◌, ◌-◌, ◌^◌, ◌<◌, ◌≤◌, cond, Bool, Option, Some, None, refl, sym, ap, subst, ◌∙◌, inl, inr, arith}
use Rattle.std.proofs.lemmas.Bool.{eq-eqb, ne_eqb}
use Rattle.marked_word.specs.Number.{new_level_word}
use Rattle.table_shape.specs.declared.place.Place.TheVariants as place
use Rattle.atomic_step.specs.declared.step.Step.TheVariants as step
use Rattle.atomic_step.specs.SoundStep.{IsSoundStep}
use Rattle.cht_core.specs.declared.table.Table.{Table}
use Rattle.cht_core.specs.Backs.{KeepsTable, LeadsOn}
use Rattle.cht_core.specs.Flow.{Flow, begins_at}
use Rattle.cht_core.specs.KnowsResize.{Resizing, NoHead, AreNew}
use Rattle.cht_core.specs.Memory.{Memory, IsMade}
use Rattle.cht_core.specs.Past.{Past}
use Rattle.cht_core.specs.Stage.{Stage, Quiet, Growing, Shrinking, Closing, bucket_in, IsNearIn, IsWhole}
use Rattle.cht_core.specs.TableState.{IsTable, IsClear}
use Rattle.cht_core.proofs.LevelPuts.{Puts, put_table, put_grows, put_spares}
use Rattle.cht_core.proofs.LevelWords.{IsLevelWord}
use Rattle.cht_core.proofs.Stages.{coarser}
use Rattle.cht_core.proofs.WordsKept.{words_kept}

-- the stage at which a resize to the next level, or to the one before, begins
pub begins_up : (level new : ℕ) → new ≡ level + 1 → begins_at level new ≡ Growing 0
begins_up level new up = ap (λ (b : Bool). cond b (Growing 0) (Shrinking new 0)) (eq-eqb new (level + 1) up)

pub begins_down : (level new : ℕ) → level ≡ new + 1 → begins_at level new ≡ Shrinking new 0
begins_down level new down = ap (λ (b : Bool). cond b (Growing 0) (Shrinking new 0)) (ne_eqb new (level + 1) (λ same. omega (arith, same, down)))

-- a store of the new level leads on to the stage
put_leads : (level : Option ℕ) (t : Table) (m m' : Memory) (p : Past) (f : Flow) (i : ℕ) (st : Stage) → IsTable t m p f → i < t.shape.seats → IsSoundStep t.shape i (step.PutNewLevel level)
    → new_level_word level < 2 ^ 64 → IsMade (step.PutNewLevel level) m m' → Puts t m m' p f i st → LeadsOn t m p f i (step.PutNewLevel level) None m' p (record f { stage = st })
put_leads level t m m' p f i st table inside sound small made puts =
    let counter : m' place.Counter ≡ m place.Counter = made.there place.Counter (λ e. cc) in
    let before : m place.Counter ≤ 2 ^ 64 - 4 = table.words.counter in
    record {
      told = tt;
      table = put_table t m m' p f i st table puts (words_kept t m m' i (step.PutNewLevel level) table.words inside sound made small (omega (arith, counter, before)));
      grows = put_grows t m m' p f i st table puts;
      spares = put_spares t m m' p f i st table puts;
      leaves = λ try. absurd try;
    }

-- each section is younger than the last Level while no resize goes on
quiet_new : (t : Table) (m : Memory) (p : Past) (f : Flow) → IsTable t m p f → f.stage ≡ Quiet → AreNew p.now
quiet_new t m p f table quiet = subst (λ (st : Stage). IsClear st p.now) quiet table.clear

grow_puts : (t : Table) (m m' : Memory) (p : Past) (f : Flow) (i new : ℕ) → IsTable t m p f → IsSoundStep t.shape i (step.PutNewLevel (Some new)) → IsMade (step.PutNewLevel (Some new)) m m'
    → Resizing p.now f i p.now.level Quiet NoHead → new ≡ p.now.level + 1 → Puts t m m' p f i (Growing 0)
grow_puts t m m' p f i new table sound made known up = record {
  others = λ q not. made.there q (λ is. not (subst IsLevelWord (sym is) tt));
  level = made.there place.Level (λ e. cc);
  word = made.here ∙ ap (λ (l : ℕ). l + 1) up;
  owner = known.owner;
  was = subst IsWhole (sym known.at_stage) tt;
  whole = refl;
  within = omega arith;
  behind = λ row bucket behind. let none : bucket < 0 = behind.1 in omega (arith, none);
  new = quiet_new t m p f table known.at_stage;
  near = λ at sought hash young near. (subst (λ (st : Stage). IsNearIn st p.now.level p.now.since at sought hash) known.at_stage near, λ below. absurd (omega (arith, below)));
  named = λ level is. let same : p.now.level + 1 ≡ level = cc in subst (λ (l : ℕ). (t.shape.min_level ≤ l) × (l ≤ t.shape.max_level)) (up ∙ same) sound.2;
}

shrink_puts : (t : Table) (m m' : Memory) (p : Past) (f : Flow) (i new : ℕ) → IsTable t m p f → IsSoundStep t.shape i (step.PutNewLevel (Some new)) → IsMade (step.PutNewLevel (Some new)) m m'
    → Resizing p.now f i p.now.level Quiet NoHead → p.now.level ≡ new + 1 → Puts t m m' p f i (Shrinking new 0)
shrink_puts t m m' p f i new table sound made known down = record {
  others = λ q not. made.there q (λ is. not (subst IsLevelWord (sym is) tt));
  level = made.there place.Level (λ e. cc);
  word = made.here;
  owner = known.owner;
  was = subst IsWhole (sym known.at_stage) tt;
  whole = refl;
  within = (down, omega arith);
  behind = λ row bucket behind. elim behind.1 [
    | inl x ↦ omega (arith, x)
    | inr x ↦ (let low : 2 ^ new ≤ bucket = x.0 in let high : bucket < 0 + 2 ^ new = x.1 in omega (arith, low, high))
  ];
  new = quiet_new t m p f table known.at_stage;
  near = λ at sought hash young near.
      let same : bucket_in (new + 1) hash ≡ bucket_in (new + 1) sought = subst (λ (l : ℕ). bucket_in l hash ≡ bucket_in l sought) down
      (subst (λ (st : Stage). IsNearIn st p.now.level p.now.since at sought hash) known.at_stage near) in
      (coarser sought hash new same, λ least. same);
  named = λ level is. let same : new ≡ level = cc in subst (λ (l : ℕ). (t.shape.min_level ≤ l) × (l ≤ t.shape.max_level)) same sound.2;
}

clear_puts : (t : Table) (m m' : Memory) (p : Past) (f : Flow) (i : ℕ) → IsMade (step.PutNewLevel None) m m' → Resizing p.now f i p.now.level Closing NoHead → AreNew p.now → Puts t m m' p f i Quiet
clear_puts t m m' p f i made known new = record {
  others = λ q not. made.there q (λ is. not (subst IsLevelWord (sym is) tt));
  level = made.there place.Level (λ e. cc);
  word = made.here;
  owner = known.owner;
  was = subst IsWhole (sym known.at_stage) tt;
  whole = tt;
  within = tt;
  behind = λ row bucket behind. behind.1;
  new = new;
  near = λ at sought hash young near. subst (λ (st : Stage). IsNearIn st p.now.level p.now.since at sought hash) known.at_stage near young;
  named = λ level is. absurd (cc);
}

-- the new level is told as a resize begins, and told no more once each section was opened after the last Level
pub put_new_level_keeps : (level : Option ℕ) → KeepsTable (step.PutNewLevel level)
put_new_level_keeps None t m m' p f i text table inside sound backs made =
    put_leads None t m m' p f i Quiet table inside sound (omega arith) made (clear_puts t m m' p f i made backs.0 backs.1)
put_new_level_keeps (Some new) t m m' p f i text table inside sound backs made = elim backs.1 [
  | inl up ↦ subst goes (sym (begins_up p.now.level new up)) (put_leads (Some new) t m m' p f i (Growing 0) table inside sound small made (grow_puts t m m' p f i new table sound made backs.0 up))
  | inr down ↦ subst goes (sym (begins_down p.now.level new down))
      (put_leads (Some new) t m m' p f i (Shrinking new 0) table inside sound small made (shrink_puts t m m' p f i new table sound made backs.0 down))
]
  where
    goes : Stage → Type 0
    goes st = LeadsOn t m p f i (step.PutNewLevel (Some new)) None m' p (record f { stage = st })

    most : new ≤ t.shape.max_level
    most = sound.2.1

    few : t.shape.max_level ≤ 20
    few = table.shape.levels.1

    small : new_level_word (Some new) < 2 ^ 64
    small = omega (arith, most, few)
