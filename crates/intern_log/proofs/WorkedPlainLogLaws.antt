-- The two small plain logs are legal, event by event, and are those of their texts.
use Rattle.std.proofs.Common.{◌≡◌, [], ◌∷◌, Some, None, inl, inr, refl, ap, ◌∙◌}
use Rattle.std.specs.FinMap as finite
use Rattle.std.specs.Ordering.{nat_cmp}
use Rattle.std.specs.Cmp.Lexicographic.{slice_cmp}
use Rattle.intern_log.specs.declared.event.Handle.{Handle}
use Rattle.intern_log.specs.declared.event.What.TheVariants.{Create, Take, Found, Drop}
use Rattle.intern_log.specs.TextMap.{TextMap, no_texts, entry_of, HasHandle, IsLive}
use Rattle.intern_log.specs.Log.{next, entry_after, IsLegal}
use Rattle.intern_log.specs.PlainLogs.{IsPlainSymbolLog, IsPlainStringLog}
use Rattle.intern_log.specs.WorkedPlainLogs.{text_a, text_b, handle_of_a, handle_of_b, a_b_a, worked_symbol_log, worked_string_log}
use Rattle.intern_log.proofs.Entries.{entry_of-next}
use Rattle.intern_log.proofs.Handles.{no_text_has}
use Rattle.intern_log.proofs.Gone.{gone-next}

-- the map after each Create, and after the Take
abbrev map_at_1 : TextMap
map_at_1 = next no_texts (Create text_a handle_of_a)

abbrev map_at_2 : TextMap
map_at_2 = next map_at_1 (Create text_b handle_of_b)

abbrev map_at_3 : TextMap
map_at_3 = next map_at_2 (Take text_a handle_of_a)

a_is_new : entry_of no_texts text_a ≡ None
a_is_new = finite.get-empty (slice_cmp nat_cmp) text_a

b_is_new : entry_of map_at_1 text_b ≡ None
b_is_new = entry_of-next no_texts (Create text_a handle_of_a) text_b ∙ finite.get-empty (slice_cmp nat_cmp) text_b

none_live : (h : Handle) → ¬ (IsLive no_texts h)
none_live h live = no_text_has live.0 h live.1

b_is_not_there : ¬ (IsLive map_at_1 handle_of_b)
b_is_not_there = gone-next no_texts (Create text_a handle_of_a) handle_of_b refl (none_live handle_of_b)

entry_of_a : entry_of map_at_2 text_a ≡ Some (record { handle = handle_of_a; count = 1 })
entry_of_a = entry_of-next map_at_1 (Create text_b handle_of_b) text_a ∙ entry_of-next no_texts (Create text_a handle_of_a) text_a

has_a : HasHandle map_at_2 text_a handle_of_a
has_a = (record { handle = handle_of_a; count = 1 }, entry_of_a, refl)

has_b : HasHandle map_at_2 text_b handle_of_b
has_b = (record { handle = handle_of_b; count = 1 }, entry_of-next map_at_1 (Create text_b handle_of_b) text_b, refl)

has_a_twice : HasHandle map_at_3 text_a handle_of_a
has_a_twice = (
  record { handle = handle_of_a; count = 2 },
  entry_of-next map_at_2 (Take text_a handle_of_a) text_a ∙ ap (entry_after (Take text_a handle_of_a) text_a) entry_of_a,
  refl,
)

symbol_log_is_legal : IsLegal worked_symbol_log
symbol_log_is_legal = ((a_is_new, none_live handle_of_a), ((b_is_new, b_is_not_there), (has_a, ((text_a, has_a_twice), tt))))

string_log_is_legal : IsLegal worked_string_log
string_log_is_legal = ((a_is_new, none_live handle_of_a), ((b_is_new, b_is_not_there), (has_a, ((text_b, has_b), tt))))

pub worked_symbol_log_is_plain : IsPlainSymbolLog 2 a_b_a worked_symbol_log
worked_symbol_log_is_plain = record {
  whats = Create text_a handle_of_a ∷ Create text_b handle_of_b ∷ Take text_a handle_of_a ∷ Drop handle_of_a ∷ [];
  by_one = refl;
  window = (
    handle_of_a ∷ handle_of_b ∷ handle_of_a ∷ [],
    (
      handle_of_a,
      Create text_a handle_of_a,
      Create text_b handle_of_b ∷ Take text_a handle_of_a ∷ Drop handle_of_a ∷ [],
      inl refl,
      refl,
      (
        handle_of_b,
        Create text_b handle_of_b,
        Take text_a handle_of_a ∷ Drop handle_of_a ∷ [],
        inl refl,
        refl,
        (handle_of_a, Take text_a handle_of_a, [], inr refl, refl, (refl, refl)),
      ),
    ),
  );
  legal = symbol_log_is_legal;
  numbered = (refl, (refl, (tt, (tt, tt))));
}

pub worked_string_log_is_plain : IsPlainStringLog 1 a_b_a worked_string_log
worked_string_log_is_plain = record {
  interns = Create text_a handle_of_a ∷ Create text_b handle_of_b ∷ Found text_a handle_of_a ∷ [];
  by_one = refl;
  literals_in_order = (
    handle_of_a,
    Create text_a handle_of_a,
    Create text_b handle_of_b ∷ Found text_a handle_of_a ∷ [],
    inl refl,
    refl,
    (
      handle_of_b,
      Create text_b handle_of_b,
      Found text_a handle_of_a ∷ [],
      inl refl,
      refl,
      (handle_of_a, Found text_a handle_of_a, [], inr refl, refl, refl),
    ),
  );
  legal = string_log_is_legal;
  numbered = (refl, (refl, (tt, tt)));
}
