-- A seat is cut in two, and a note is taken of what it has seen.
use Rattle.std.proofs.Common.{◌≡◌, ◌≢◌, ◌⊎◌, ⊎_elim, ℕ, zero, suc, true, false, List, [], ◌∷◌, ◌++◌, length, set, Option, Some, None, inl, inr, refl, sym, ap, subst, ◌∙◌}
use Rattle.std.proofs.lemmas.List.Elements.{All-nil, All-cons}
use Rattle.std.proofs.lemmas.List.{append-nil}
use mathlib.Core.Option.{some, some-injective, some-ne-none}
use lib.ListN.{get_elem?}
use Rattle.atomic_table.specs.Table.{Splits}
use Rattle.atomic_table.proofs.Lists.{at_set}
use Rattle.call_machine.specs.declared.machine.Own.{Own}
use Rattle.cht_core.specs.declared.seat.Seat.TheVariants as doing
use Rattle.cht_core.specs.Memory.{Memory, memory_of}
use Rattle.cht_core.specs.State.{HasResting}
use Rattle.cht_core.specs.View.{View}
use Rattle.cht_run.specs.declared.sight.Earlier.{Earlier}
use Rattle.cht_run.specs.declared.sight.Entry.{Entry}
use Rattle.cht_run.specs.declared.sight.Origin.{Origin}
use Rattle.cht_run.specs.declared.sight.Sight.{Sight}
use Rattle.intern_log.specs.Own.{is_among}
use Rattle.cht_run.specs.Heirs.{legacy_of}
use Rattle.cht_run.specs.History.{by_of, NoneBy, IsOut, AreOut, AreApart, Follows, Remembers}
use Rattle.cht_run.specs.Rule.{view_of, is_seat, Owns, IsNew, Fits, IsSnapshot, Kept}
use Rattle.cht_run.specs.Views.{earlier_of, nobody, note_of, giver, child_of, child_in, child}
use Rattle.cht_run.proofs.Histories.{among_here, none_first, none_second, none_by_none, out_since}
use Rattle.cht_run.proofs.Steps.{Seats, part_of}

-- what stands at a place of a list and one more
pub at_last : {A : Type 0} (l : List A) (a b : A) (j : ℕ) → get_elem? (l ++ a ∷ []) j ≡ some b → (get_elem? l j ≡ some b) ⊎ ((j ≡ length l) × (a ≡ b))
at_last [] a b zero e = inr (refl, some-injective a b e)
at_last [] a b (suc j) e = absurd (some-ne-none b (sym e))
at_last (x ∷ xs) a b zero e = inl e
at_last (x ∷ xs) a b (suc j) e = ⊎_elim (λ was. inl was) (λ last. inr (ap suc last.0, last.1)) (at_last xs a b j e)

-- nothing is known before a join
pub no_earlier : (history : List Entry) → Remembers history []
no_earlier history = record { seen = All-nil (λ (e : Earlier). Follows e.numbers e.history history); apart = tt }

-- where nothing is by the numbers, no number that they have drawn is out
pub out_of_nobody : (numbers kids : List ℕ) (xs : List Entry) → NoneBy numbers xs → AreOut numbers kids xs
out_of_nobody numbers kids xs none = out_since numbers kids [] xs (All-nil (IsOut numbers kids)) none

-- who is no seat fits where it has seen a part
pub nobody_fits : (o origin : Origin) (m : Memory) (seat : ℕ → Option View) (seen history later : List Entry) → history ≡ seen ++ later → Fits o m seat history (nobody origin seen)
nobody_fits o origin m seat seen history later whole = record {
  of = λ is. absurd (cc);
  seen = record { later = later; whole = whole; none = none_by_none later };
  part = inr refl;
  given = λ own gave. absurd (cc);
  out = out_of_nobody [] [] seen (none_by_none seen);
  earlier = no_earlier seen;
}

pub nobody_owns : (o : Origin) (seen : List Entry) (k : ℕ) → Owns (nobody o seen) k → ⊥
nobody_owns o seen k (inl is) = let never : false ≡ true = is.0 in absurd (cc)
nobody_owns o seen k (inr given) = let gave = given.1 in absurd (cc)

-- who has no words has none of before
pub no_snapshot : (words : List ℕ) (v : Sight) → v.words ≡ None → IsSnapshot words v
no_snapshot words v none snapshot has = absurd (cc)

-- THE VIEWS AFTER IT: one is changed, and one is added

abbrev cut_views : Seats → ℕ → Sight → Sight → List Sight
cut_views s id left right = set s.views id left ++ right ∷ []

module _ (o : Origin) (s : Seats) (k : Kept o s) (id : ℕ) (v : Sight) (at : get_elem? s.views id ≡ some v) (left right : Sight) where
  abbrev m : Memory
  m = memory_of o.table.shape s.words

  -- a fact of each view after it
  each_cut : (P : ℕ → Sight → Type 0) → P id left → ((j : ℕ) (u : Sight) → j ≢ id → get_elem? s.views j ≡ some u → P j u) → P (length (set s.views id left)) right →
      (j : ℕ) (u : Sight) → get_elem? (cut_views s id left right) j ≡ some u → P j u
  each_cut P here there last j u e = ⊎_elim
      (λ was. ⊎_elim
      (λ (x : (j ≡ id) × (left ≡ u)). subst (λ n. P n u) (sym x.0) (subst (P id) x.1 here))
      (λ (x : (j ≢ id) × (get_elem? s.views j ≡ some u)). there j u x.0 x.1)
      (at_set s.views id j left u was))
      (λ x. subst (λ n. P n u) (sym x.0) (subst (P (length (set s.views id left))) x.1 last))
      (at_last (set s.views id left) right u j e)

  -- the rule after it, where the two new views fit, and each number is owned as before, or is the new one's
  module _ (fits_left : Fits o m k.seat k.history left) (fits_right : Fits o m k.seat k.history right)
      (owned_left : (x : ℕ) → Owns left x → Owns v x × (Owns right x → ⊥)) (owned_right : (x : ℕ) → Owns right x → Owns v x) (shown_left : IsSnapshot s.words left) (shown_right : IsSnapshot s.words right) where
    -- who owned a number
    abbrev Was : ℕ → ℕ → Type 0
    Was j x = ((u : Sight) × (get_elem? s.views j ≡ some u) × Owns u x × (Owns right x → ⊥)) ⊎ ((j ≡ length (set s.views id left)) × Owns right x)

    was : (j : ℕ) (u : Sight) → get_elem? (cut_views s id left right) j ≡ some u → (x : ℕ) → Owns u x → Was j x
    was j u e = each_cut (λ n w. (x : ℕ) → Owns w x → Was n x)
        (λ x owns. inl (v, at, (owned_left x owns).0, (owned_left x owns).1))
        (λ n w differ at' x owns. inl (w, at', owns, λ also. differ (k.apart n id x w v at' at owns (owned_right x also))))
        (λ x owns. inr (refl, owns))
        j u e

    cut_apart : (i j x : ℕ) → Was i x → Was j x → i ≡ j
    cut_apart i j x (inl a) (inl b) = k.apart i j x a.0 b.0 a.1 b.1 a.2 b.2
    cut_apart i j x (inl a) (inr b) = absurd (a.3 b.1)
    cut_apart i j x (inr a) (inl b) = absurd (b.3 a.1)
    cut_apart i j x (inr a) (inr b) = a.0 ∙ sym b.0

    cut_kept : Kept o (record { words = s.words; homes = s.homes; views = cut_views s id left right })
    cut_kept = record {
      seat = k.seat;
      history = k.history;
      sized = k.sized;
      inv = k.inv;
      seed = k.seed;
      told = k.told;
      orderly = k.orderly;
      numbered = k.numbered;
      counted = k.counted;
      below = k.below;
      drawn = k.drawn;
      apart = λ i j x u w at_i at_j own_u own_w. cut_apart i j x (was i u at_i x own_u) (was j w at_j x own_w);
      fits = each_cut (λ n u. Fits o m k.seat k.history u) fits_left (λ n u differ at'. k.fits n u at') fits_right;
      shown = each_cut (λ n u. IsSnapshot s.words u) shown_left (λ n u differ at'. k.shown n u at') shown_right;
    }

-- A NOTE
pub notes : (o : Origin) (id : ℕ) (v : Sight) → Splits (Kept o) id v v (note_of v)
notes o id v s k at = let f = k.fits id v at in
    cut_kept o s k id v at v (note_of v) f (nobody_fits o v.origin (memory_of o.table.shape s.words) k.seat v.history k.history f.seen.later f.seen.whole)
    (λ x owns. (owns, nobody_owns v.origin v.history x)) (λ x owns. absurd (nobody_owns v.origin v.history x owns)) (k.shown id v at) (no_snapshot s.words (note_of v) refl)

-- A NOTE OF ALL THAT A SEAT HAS
legacy_fits : (o : Origin) (m : Memory) (seat : ℕ → Option View) (history : List Entry) (v : Sight) → Fits o m seat history v → Fits o m seat history (legacy_of v)
legacy_fits o m seat history v f =
    let Was : Earlier → Type 0 = λ e. Follows e.numbers e.history v.history in
    let Apart : Earlier → Type 0 = λ e. AreApart v.numbers e.numbers in
    record {
      of = λ is. absurd (cc);
      seen = record { later = f.seen.later; whole = f.seen.whole; none = none_by_none f.seen.later };
      part = inr refl;
      given = λ own gave. absurd (cc);
      out = out_of_nobody [] [] v.history (none_by_none v.history);
      earlier = record {
        seen = All-cons Was (earlier_of v) [] (record { later = []; whole = sym (append-nil v.history); none = All-nil (λ (e : Entry). is_among v.numbers (by_of e) ≡ false) }) (All-nil Was);
        apart = (All-nil Apart, tt);
      };
    }

legacy_owns : (v : Sight) (x : ℕ) → Owns (legacy_of v) x → ⊥
legacy_owns v x (inl is) = let never : false ≡ true = is.0 in absurd (cc)
legacy_owns v x (inr given) = let gave = given.1 in absurd (cc)

pub leaves : (o : Origin) (id : ℕ) (v : Sight) → Splits (Kept o) id v v (legacy_of v)
leaves o id v s k at = let f = k.fits id v at in
    cut_kept o s k id v at v (legacy_of v) f (legacy_fits o (memory_of o.table.shape s.words) k.seat k.history v f)
    (λ x owns. (owns, legacy_owns v x)) (λ x owns. absurd (legacy_owns v x owns)) (k.shown id v at) (no_snapshot s.words (legacy_of v) refl)

-- A SEAT WITH A NUMBER OF ITS OWN
module _ (o : Origin) (s : Seats) (k : Kept o s) (id : ℕ) (v : Sight) (at : get_elem? s.views id ≡ some v) (own : Own) (is : is_seat v ≡ true) (gave : v.given ≡ Some own) where
  abbrev mem : Memory
  mem = memory_of o.table.shape s.words

  abbrev fit : Fits o mem k.seat k.history v
  fit = k.fits id v at

  new : IsNew o k.seat k.history v.number own
  new = fit.given own gave

  fits_giver : Fits o mem k.seat k.history (giver v)
  fits_giver = record {
    of = fit.of;
    seen = fit.seen;
    part = let part = part_of o mem k.seat k.history v fit is in inl (is, record { at = part.at; rests = part.rests; headed = part.headed; reads = part.reads; covers = part.covers });
    given = λ x never. absurd (cc);
    out = fit.out;
    earlier = fit.earlier;
  }

  rests_child : HasResting (doing.Idle own)
  rests_child = subst (λ (x : Own). HasResting (doing.Idle x)) (sym new.own_is) tt

  fits_child : Fits o mem k.seat k.history (child_of own v)
  fits_child = record {
    of = λ seat. fit.of is;
    seen = record { later = fit.seen.later; whole = fit.seen.whole; none = none_second (own.number ∷ []) v.history fit.seen.later (subst (NoneBy (own.number ∷ [])) fit.seen.whole new.unused) };
    part = inl (
      among_here [] own.number,
      record {
        at = new.at ∙ ap (λ (x : Own). Some (view_of (record (child_of own v) { seat = doing.Idle x }))) (sym new.own_is);
        rests = rests_child;
        headed = tt;
        reads = tt;
        covers = λ none_out root. tt;
      },
    );
    given = λ x never. absurd (cc);
    out = out_of_nobody (own.number ∷ []) [] v.history (none_first (own.number ∷ []) v.history fit.seen.later (subst (NoneBy (own.number ∷ [])) fit.seen.whole new.unused));
    earlier = no_earlier v.history;
  }

  owned_giver : (x : ℕ) → Owns (giver v) x → Owns v x × (Owns (child_of own v) x → ⊥)
  owned_giver x (inl mine) = (inl mine, λ also. go also)
    where
      go : Owns (child_of own v) x → ⊥
      go (inl yours) = new.differ (sym yours.1 ∙ mine.1)
      go (inr never) = let gave = never.1 in absurd (cc)
  owned_giver x (inr never) = let gave = never.1 in absurd (cc)

  owned_child : (x : ℕ) → Owns (child_of own v) x → Owns v x
  owned_child x (inl yours) = inr (own, gave, yours.1)
  owned_child x (inr never) = let gave = never.1 in absurd (cc)

  cut_in : (given : Option Own) → given ≡ Some own → Kept o (record { words = s.words; homes = s.homes; views = cut_views s id (giver v) (child_in given v) })
  cut_in given same = subst (λ (g : Option Own). Kept o (record { words = s.words; homes = s.homes; views = cut_views s id (giver v) (child_in g v) })) (sym same)
      (cut_kept o s k id v at (giver v) (child_of own v) fits_giver fits_child owned_giver owned_child (k.shown id v at) (no_snapshot s.words (child_of own v) refl))

pub cuts : (o : Origin) (id : ℕ) (v : Sight) (own : Own) → is_seat v ≡ true → v.given ≡ Some own → Splits (Kept o) id v (giver v) (child v)
cuts o id v own is gave s k at = cut_in o s k id v at own is gave v.given gave
