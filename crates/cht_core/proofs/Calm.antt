-- A step that changes nothing.
use Rattle.std.proofs.Common.{ℕ, refl, inl, arith, None}
use Rattle.atomic_step.specs.declared.step.Step.{Step}
use Rattle.cht_core.specs.declared.table.Table.{Table}
use Rattle.cht_core.specs.Backs.{LeadsOn}
use Rattle.cht_core.specs.Flow.{Flow}
use Rattle.cht_core.specs.Memory.{Memory}
use Rattle.cht_core.specs.Past.{Past}
use Rattle.cht_core.specs.Rely.{Grows, Leaves, Spares}
use Rattle.cht_core.specs.TableState.{IsTable}

-- what knows of nothing new stays as it is
pub grows_none : (m : Memory) (p : Past) (f : Flow) → Grows m p f m p f
grows_none m p f = record {
  later = omega arith;
  seed = refl;
  counter = omega arith;
  made = λ h is. is;
  made_back = λ h is. inl is;
  uses = λ s. omega arith;
  linked = λ s text h born is. inl is;
  unlinked = λ s seat at k o is inside less. is;
  entries = λ text e is. inl (e, is, refl);
  sections = λ k o is. inl is;
  words = λ k s o is held. (refl, λ at. refl);
  walks = record {
    fits = λ k hash s o is fit. fit;
    go = λ k o text hash node ahead is path fit. record { left = ahead; path = path; fit = fit; kept = λ s on. inl on; fresh = λ s on. inl on };
  };
  routes = λ k hash row o is routed. routed;
  onward = λ k hash row o is sent. sent;
  based = λ k hash row o is routed. refl;
}

pub leaves_none : (i : ℕ) (m : Memory) (p : Past) (f : Flow) → Leaves i m p f m p f
leaves_none i m p f = record {
  locks = λ row bucket is. is;
  locks_back = λ row bucket is. is;
  heads = λ row bucket is. refl;
  used = λ row bucket used is. used;
  chains = λ row bucket used is. refl;
  links = λ row bucket s used is on. refl;
  nodes = λ row bucket s text h born used is on linked. linked;
  unlinked = λ s at is. is;
  unlinked_back = λ s at is. is;
  counts = λ s at is. refl;
  owner = λ is. is;
  owner_back = λ is. is;
  still = λ is. record { level = refl; since = refl; stage = refl; before = refl; parted = λ s. refl; free = λ row bucket unused none. none };
}

pub spares_none : (i : ℕ) (m : Memory) (p : Past) (f : Flow) → Spares i m p f m p f
spares_none i m p f = record {
  section = refl;
  claimed = λ s is. is;
  claimed_back = λ s is. is;
  link = λ s is. refl;
  count = λ s is. refl;
  meta = λ s is. refl;
  text = λ s at is. refl;
  holds = λ h. refl;
  leaves = leaves_none i m p f;
}

-- a step without an event that leaves the words and the flow as they are
pub calm_leads : (t : Table) (m : Memory) (p : Past) (f : Flow) (i : ℕ) (s : Step) → IsTable t m p f → LeadsOn t m p f i s None m p f
calm_leads t m p f i s table = record {
  told = tt;
  table = table;
  grows = grows_none m p f;
  spares = λ k differ. spares_none k m p f;
  leaves = λ try. leaves_none i m p f;
}
