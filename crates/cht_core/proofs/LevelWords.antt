-- A step on the level or the new level leaves all other words as they are.
use Rattle.std.proofs.Common.{◌≡◌, ℕ, ◌≤◌, sym, ap, subst, ◌∙◌}
use Rattle.marked_word.specs.Link.{node_of}
use Rattle.table_shape.specs.declared.place.Place.{Place}
use Rattle.table_shape.specs.declared.place.Place.TheVariants as place
use Rattle.atomic_step.specs.Count.{generation_of, holds_of}
use Rattle.cht_core.specs.declared.table.Table.{Table}
use Rattle.cht_core.specs.Heads.{Sections}
use Rattle.cht_core.specs.Memory.{Memory, links}
use Rattle.cht_core.specs.Past.{Past}
use Rattle.cht_core.specs.Slots.{Slots, IsPast}

-- a word that says at which level the table is, or to which one it goes
abbrev pub IsLevelWord : Place → Type 0
IsLevelWord place.Level = Unit {0}
IsLevelWord place.NewLevel = Unit {0}
IsLevelWord _ = ⊥

module _ (t : Table) (m m' : Memory) (p : Past) (others : (q : Place) → (IsLevelWord q → ⊥) → m' q ≡ m q) where
  -- the slots stay, and so do the links, the paths and the sections
  pub level_slots : Slots t m p → Slots t m' p
  level_slots h = record {
    claims = λ s. others (place.Claim s) (λ z. z) ∙ h.claims s;
    counts = λ s text k born linked. others (place.Count s) (λ z. z) ∙ h.counts s text k born linked;
    gone = λ s seat at unlinked. ap holds_of (others (place.Count s) (λ z. z)) ∙ h.gone s seat at unlinked;
    metas = λ s text k born linked. others (place.Meta s) (λ z. z) ∙ h.metas s text k born linked;
    texts = λ s text k born linked at below inside. others (place.Text s at) (λ z. z) ∙ h.texts s text k born linked at below inside;
    rooms = h.rooms;
    made = λ k was. subst (λ (count : ℕ). IsPast (generation_of count) k (p.now.slot k.slot)) (sym (others (place.Count k.slot) (λ z. z))) (h.made k was);
    uses = λ s. subst (λ (count : ℕ). generation_of count ≤ p.uses s) (sym (others (place.Count s) (λ z. z))) (h.uses s);
    used = h.used;
  }

  pub level_links : links m' ≡ links m
  level_links = λ k s. node_of (others (place.Link s) (λ z. z) k)

  pub level_sections : Sections t m p.now → Sections t m' p.now
  level_sections h = record {
    counter = others place.Counter (λ z. z) ∙ h.counter;
    words = λ k. others (place.Section k) (λ z. z) ∙ h.words k;
    seats = h.seats;
  }
