-- How many texts are live after an event.
use Rattle.std.proofs.Common.{◌≡◌, ℕ, ◌+◌, ◌≤◌, Bool, true, false, cond, List, [], ◌∷◌, Option, Some, None, is_some, length, ◌-◌, refl, sym, ap, ◌∙◌, arith}
use Rattle.std.proofs.lemmas.List.{length-map}
use Rattle.std.proofs.lemmas.Cmp.{nat_list_cmp_total}
use Rattle.std.specs.Option.{option_map}
use Rattle.std.specs.Cmp.Lexicographic.{slice_cmp}
use Rattle.std.specs.Ordering.{nat_cmp}
use Rattle.std.specs.FinMap as finite
use Rattle.intern_log.specs.declared.event.Entry.{Entry}
use Rattle.intern_log.specs.declared.event.What.{What}
use Rattle.intern_log.specs.declared.event.What.TheVariants.{Create, Take, Found, Drop, Perm, Kill, Claim, Free, Open, Close, Grace, Lock, Unlock, Unlink, ResizeTaken, ResizeGiven, Level, Rehash}
use Rattle.intern_log.specs.TextMap.{TextMap, no_texts, entry_of, live_texts, put_at, altered, alter, at_handle}
use Rattle.intern_log.specs.Log.{next, new_entry, raised, lowered, made_permanent}
use Rattle.intern_log.specs.PlainLogs.{slots_taken}

pub length-live_texts-len : (m : TextMap) → length (live_texts m) ≡ finite.len m
length-live_texts-len m = length-map _ _ ∙ sym (finite.len-entries m)

chosen_le : (b : Bool) (n k : ℕ) → k ≡ cond b n (n + 1) → k ≤ n + 1
chosen_le true n k is = omega arith
chosen_le false n k is = omega arith

less_le : (b : Bool) (n k : ℕ) → k ≡ cond b (n - 1) n → k ≤ n
less_le true n k is = omega arith
less_le false n k is = omega arith

-- a change at one text makes one more entry at most
len-put_at : (m : TextMap) (t : List ℕ) (o : Option Entry) → finite.len (put_at m t o) ≤ finite.len m + 1
len-put_at m t None = let less = less_le (finite.contains_key m t) (finite.len m) (finite.len (put_at m t None)) (finite.len-remove nat_list_cmp_total m t) in omega (arith, less)
len-put_at m t (Some e) = chosen_le _ _ _ (finite.len-insert nat_list_cmp_total m t e)

-- and none where the text has one, or keeps none
len-changed : (m : TextMap) (t : List ℕ) (change : Entry → Entry) (o : Option Entry) → entry_of m t ≡ o → finite.len (put_at m t (option_map change o)) ≤ finite.len m
len-changed m t change None is = less_le _ _ _ (finite.len-remove nat_list_cmp_total m t)
len-changed m t change (Some e) is = let as_many = finite.len-insert nat_list_cmp_total m t (change e) ∙ ap (λ o. cond (is_some o) (finite.len m) (finite.len m + 1)) is in omega (arith, as_many)

len-altered : (change : Entry → Option Entry) (es : List (List ℕ × Entry)) → finite.len (altered change es) ≤ length es
len-altered change [] = let none = finite.len-empty (slice_cmp nat_cmp) Entry in omega (arith, none)
len-altered change (e ∷ es) = omega (arith, len-put_at (altered change es) e.0 (change e.1), len-altered change es)

len-alter : (change : Entry → Option Entry) (m : TextMap) → finite.len (alter change m) ≤ finite.len m
unfolding alter
len-alter change m = let es = finite.entries m in omega (arith, len-altered change (finite.entries m), finite.len-entries m)

len-next : (m : TextMap) (what : What) → finite.len (next m what) ≤ finite.len m + slots_taken what
len-next m (Create t h) = len-put_at m t (Some (new_entry h))
len-next m (Take t h) = let le = len-changed m t raised (entry_of m t) refl in omega (arith, le)
len-next m (Drop h) = let le = len-alter (at_handle h lowered) m in omega (arith, le)
len-next m (Perm h) = let le = len-alter (at_handle h (λ e. Some (made_permanent e))) m in omega (arith, le)
len-next m (Kill h) = let le = len-alter (at_handle h (λ e. None)) m in omega (arith, le)
len-next m (Found t h) = omega arith
len-next m (Claim s) = omega arith
len-next m (Free s) = omega arith
len-next m (Open c) = omega arith
len-next m Close = omega arith
len-next m Grace = omega arith
len-next m (Lock r b) = omega arith
len-next m (Unlock r b) = omega arith
len-next m (Unlink s) = omega arith
len-next m ResizeTaken = omega arith
len-next m ResizeGiven = omega arith
len-next m (Level l) = omega arith
len-next m (Rehash n) = omega arith

-- an event makes as many more live texts as it takes slots, at most
pub length-live_texts-next : (m : TextMap) (what : What) → length (live_texts (next m what)) ≤ length (live_texts m) + slots_taken what
length-live_texts-next m what = omega (arith, length-live_texts-len m, length-live_texts-len (next m what), len-next m what)

pub length-live_texts-none : length (live_texts no_texts) ≡ 0
length-live_texts-none = length-live_texts-len no_texts ∙ finite.len-empty (slice_cmp nat_cmp) Entry
