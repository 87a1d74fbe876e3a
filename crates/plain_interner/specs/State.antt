-- What callers see of a one-thread interner, and what its answers tell.
use Rattle.std.specs.Prelude.{◌≡◌, ℕ, ◌+◌, Bool, true, false, List, refl}
use Rattle.std.specs.Coded.{Coded, code_by, coded×, coded_ℕ, coded_bool}
use Rattle.intern_log.specs.declared.event.Kind.{Kind}
use Rattle.intern_log.specs.declared.event.Kind.TheVariants.{Counted, Weak}
use Rattle.intern_log.specs.declared.event.What.{What}
use Rattle.intern_log.specs.declared.event.What.TheVariants as what
use Rattle.intern_log.specs.TextMap.{TextMap, text_map_code}
use Rattle.intern_log.specs.Log.{next, Allows}
use Rattle.intern_log.specs.PlainLogs.{slots_taken}
use Rattle.plain_interner.specs.declared.plain.PlainInterned.{PlainInterned}
use Rattle.plain_interner.specs.declared.plain.PlainInterned.TheVariants.{Created, Taken, Found}

-- how the interner keeps its entries, the live entry of each text, and how many slots were given out
pub record State : Type 0 where
  pub kind : Kind
  pub texts : TextMap
  pub created : ℕ

-- a kind is stored as whether it is weak
abbrev pub is_weak : Kind → Bool
is_weak Counted = false
is_weak Weak = true

abbrev pub kind_of : Bool → Kind
kind_of false = Counted
kind_of true = Weak

abbrev pub kind_of-is_weak : (kind : Kind) → kind_of (is_weak kind) ≡ kind
kind_of-is_weak Counted = refl
kind_of-is_weak Weak = refl

abbrev pub kind_code : Coded Kind
kind_code = code_by Bool coded_bool is_weak kind_of kind_of-is_weak

-- a state is stored as its three parts
abbrev pub state_code : Coded State
state_code = code_by (Kind × (TextMap × ℕ)) (coded× kind_code (coded× text_map_code coded_ℕ)) (λ s. (s.kind, (s.texts, s.created))) (λ p. record { kind = p.0; texts = p.1.0; created = p.1.1 }) (λ _. refl)

-- the new state is the old one after this event, which the old one allows
pub record Follows (old : State) (event : What) (new : State) : Type 0 where
  pub allowed : Allows old.texts event
  pub texts : new.texts ≡ next old.texts event
  pub kind : new.kind ≡ old.kind
  pub created : new.created ≡ old.created + slots_taken event

-- the event that an answer to an intern of the text tells of
abbrev pub event_of : List ℕ → PlainInterned → What
event_of text (Created h) = what.Create text h
event_of text (Taken h) = what.Take text h
event_of text (Found h) = what.Found text h

-- a new entry's handle is the first slot that was not given out, in its first generation
abbrev pub HasNewSlot : State → PlainInterned → Type 0
HasNewSlot old (Created h) = h ≡ record { slot = old.created; generation = 0 }
HasNewSlot old _ = Unit {0}

-- a text that is live is taken in a counted interner, and only found in a weak one
abbrev pub IsOfKind : Kind → PlainInterned → Type 0
IsOfKind kind (Created h) = Unit {0}
IsOfKind kind (Taken h) = kind ≡ Counted
IsOfKind kind (Found h) = kind ≡ Weak
