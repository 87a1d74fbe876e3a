-- Where an entry stands in a map, after it was put there and after each entry was changed.
use Rattle.std.proofs.Common.{◌≡◌, ◌≢◌, ℕ, Bool, true, false, cond, List, Option, Some, None, is_some, ◌↔◌, refl, sym, ap, ◌∙◌}
use Rattle.std.specs.Bool.{Decides}
use Rattle.std.specs.List.{Contains}
use Rattle.std.specs.Option.{option_and_then}
use Rattle.std.specs.Str.{bytes_eq}
use Rattle.std.specs.Ordering.{nat_cmp, eq_by_cmp}
use Rattle.std.specs.Cmp.Lexicographic.{slice_cmp, texts_ties}
use Rattle.std.specs.FinMap as finite
use Rattle.std.proofs.lemmas.Cmp.{nat_list_cmp_total, eq_by_cmp_equiv}
use Rattle.std.proofs.lemmas.Slice.Eq.{bytes_eq-Decides}
use Rattle.std.proofs.lemmas.Map.Views.{list_any-from_Contains, Contains-from_any}
use Rattle.intern_log.specs.declared.event.Handle.{Handle}
use Rattle.intern_log.specs.declared.event.Entry.{Entry}
use Rattle.intern_log.specs.TextMap.{TextMap, entry_of, HasHandle, IsLive, live_texts, put_at, alter}
use Rattle.intern_log.specs.Log.{HandlesDiffer}
use Rattle.intern_log.proofs.Entries.{entry_of-put_at, entry_of-alter}

pub chosen : {A : Type 0} (P : Type 0) (b : Bool) (x y : A) → Decides b P → P → cond b x y ≡ x
chosen P true x y decided is = refl
chosen P false x y decided is = let never = decided.1 is in absurd (cc)

pub not_chosen : {A : Type 0} (P : Type 0) (b : Bool) (x y : A) → Decides b P → ¬ P → cond b x y ≡ y
not_chosen P true x y decided is_not = absurd (is_not (decided.0 refl))
not_chosen P false x y decided is_not = refl

pub put_there : (m : TextMap) (text : List ℕ) (put : Option Entry) → entry_of (put_at m text put) text ≡ put
put_there m text put = entry_of-put_at m text put text ∙ chosen (text ≡ text) (bytes_eq text text) put _ (bytes_eq-Decides text text) refl

pub put_elsewhere : (m : TextMap) (text : List ℕ) (put : Option Entry) (other : List ℕ) → other ≢ text → entry_of (put_at m text put) other ≡ entry_of m other
put_elsewhere m text put other differ = entry_of-put_at m text put other ∙ not_chosen (other ≡ text) (bytes_eq other text) put _ (bytes_eq-Decides other text) differ

pub altered_some : (m : TextMap) (change : Entry → Option Entry) (text : List ℕ) (e : Entry) → entry_of m text ≡ Some e → entry_of (alter change m) text ≡ change e
altered_some m change text e is = entry_of-alter change m text ∙ ap (option_and_then change) is

pub altered_none : (m : TextMap) (change : Entry → Option Entry) (text : List ℕ) → entry_of m text ≡ None → entry_of (alter change m) text ≡ None
altered_none m change text is = entry_of-alter change m text ∙ ap (option_and_then change) is

pub has_handle_is : (m : TextMap) (text : List ℕ) (h : Handle) → HasHandle m text h ↔ ((n : ℕ) × (entry_of m text ≡ Some (record { handle = h; count = n })))
has_handle_is m text h = (
  (λ (e, is, at). (e.count, is ∙ ap (λ (k : Handle). Some (record { handle = k; count = e.count })) at)),
  (λ (n, is). (record { handle = h; count = n }, is, refl)),
)

pub is_live_is : (m : TextMap) (h : Handle) → IsLive m h ↔ ((text : List ℕ) × (n : ℕ) × (entry_of m text ≡ Some (record { handle = h; count = n })))
is_live_is m h = (
  (λ (text, has). let is = (has_handle_is m text h).0 has in (text, is.0, is.1)),
  (λ (text, n, is). (text, (has_handle_is m text h).1 (n, is))),
)

pub handles_differ_is : (m : TextMap) → HandlesDiffer m ↔ ((text other : List ℕ) (e f : Entry) → entry_of m text ≡ Some e → entry_of m other ≡ Some f → e.handle ≡ f.handle → text ≡ other)
handles_differ_is m = (
  (λ differ text other e f is there same. differ text other f.handle (e, is, same) (f, there, refl)),
  (λ apart text other h (e, is, at) (f, there, also). apart text other e f is there (at ∙ sym also)),
)

-- the order of bytes ties exactly the equal texts
tied : (q t : List ℕ) → eq_by_cmp (slice_cmp nat_cmp) q t ≡ true → q ≡ t
tied q t is = (bytes_eq-Decides q t).0 (texts_ties q t ∙ is)

some_there : {A : Type 0} (o : Option A) → is_some o ≡ true → (x : A) × (o ≡ Some x)
some_there None is = absurd (cc)
some_there (Some x) is = (x, refl)

pub live_texts_are : (m : TextMap) (text : List ℕ) → Contains (live_texts m) text ↔ ((e : Entry) × (entry_of m text ≡ Some e))
live_texts_are m text = (
  (λ there. some_there (entry_of m text) (finite.contains_key-keys m text ∙ list_any-from_Contains (eq_by_cmp_equiv nat_list_cmp_total) text (live_texts m) there)),
  (λ (e, is). Contains-from_any tied text (live_texts m) (sym (finite.contains_key-keys m text) ∙ ap (λ o. is_some o) is)),
)
