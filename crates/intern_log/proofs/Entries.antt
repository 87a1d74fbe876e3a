-- What the map has at a text after a change: laws with no premise.
use Rattle.std.proofs.Common.{◌≡◌, ℕ, Bool, true, false, cond, List, [], ◌∷◌, Option, Some, None, refl, sym, ap, ◌∙◌}
use Rattle.std.specs.Bool.{Decides}
use Rattle.std.specs.Str.{bytes_eq}
use Rattle.std.proofs.lemmas.Slice.Eq.{bytes_eq-Decides}
use Rattle.std.specs.Option.{option_map, option_and_then}
use Rattle.std.specs.Ordering.{nat_cmp, eq_by_cmp}
use Rattle.std.specs.Cmp.Lexicographic.{slice_cmp, texts_ties}
use Rattle.std.proofs.lemmas.Cmp.{nat_list_cmp_total}
use Rattle.std.specs.FinMap as finite
use Rattle.intern_log.specs.declared.event.Entry.{Entry}
use Rattle.intern_log.specs.declared.event.What.{What}
use Rattle.intern_log.specs.declared.event.What.TheVariants.{Create, Take, Found, Drop, Perm, Kill, Claim, Free, Open, Close, Grace, Lock, Unlock, Unlink, ResizeTaken, ResizeGiven, Level, Rehash}
use Rattle.intern_log.specs.TextMap.{TextMap, entry_of, put_at, altered, alter, at_handle}
use Rattle.intern_log.specs.Log.{next, entry_after, new_entry, raised, lowered}

-- the order of bytes ties exactly the equal texts
tied_is : (q t : List ℕ) → eq_by_cmp (slice_cmp nat_cmp) q t ≡ bytes_eq q t
tied_is q t = sym (texts_ties q t)

pub entry_of-put_at : (m : TextMap) (t : List ℕ) (o : Option Entry) (q : List ℕ) → entry_of (put_at m t o) q ≡ cond (bytes_eq q t) o (entry_of m q)
entry_of-put_at m t None q = finite.get-remove nat_list_cmp_total m t q ∙ ap (λ b. cond b None (entry_of m q)) (tied_is q t)
entry_of-put_at m t (Some e) q = finite.get-insert nat_list_cmp_total m t e q ∙ ap (λ b. cond b (Some e) (entry_of m q)) (tied_is q t)

-- a choice of the entry, and then a change, is a choice of the changed entry
chosen : (change : Entry → Option Entry) (b : Bool) (e : Entry) (o : Option Entry) → cond b (change e) (option_and_then change o) ≡ option_and_then change (cond b (Some e) o)
chosen change true e o = refl
chosen change false e o = refl

entry_of-altered : (change : Entry → Option Entry) (es : List (List ℕ × Entry)) (q : List ℕ) →
    entry_of (altered change es) q ≡ option_and_then change (finite.find (slice_cmp nat_cmp) q es)
entry_of-altered change [] q = finite.get-empty (slice_cmp nat_cmp) q
entry_of-altered change (e ∷ es) q =
    entry_of-put_at (altered change es) e.0 (change e.1) q
    ∙ ap (λ o. cond (bytes_eq q e.0) (change e.1) o) (entry_of-altered change es q)
    ∙ chosen change (bytes_eq q e.0) e.1 _
    ∙ ap (λ b. option_and_then change (cond b (Some e.1) (finite.find (slice_cmp nat_cmp) q es))) (sym (tied_is q e.0))

pub entry_of-alter : (change : Entry → Option Entry) (m : TextMap) (q : List ℕ) → entry_of (alter change m) q ≡ option_and_then change (entry_of m q)
unfolding alter
entry_of-alter change m q = entry_of-altered change (finite.entries m) q ∙ ap (option_and_then change) (sym (finite.get-entries m q))

-- where a test of two texts answers true they are one, so what stands at the one stands at the other
same_text : {A : Type 0} (f : List ℕ → A) (t q : List ℕ) (o : A) (b : Bool) → Decides b (q ≡ t) → cond b (f t) o ≡ cond b (f q) o
same_text f t q o true decided = ap f (sym (decided.0 refl))
same_text f t q o false decided = refl

-- the map after one more event, text by text
pub entry_of-next : (m : TextMap) (what : What) (q : List ℕ) → entry_of (next m what) q ≡ entry_after what q (entry_of m q)
entry_of-next m (Create t h) q = entry_of-put_at m t (Some (new_entry h)) q
entry_of-next m (Take t h) q = entry_of-put_at m t _ q ∙ same_text (λ text. option_map raised (entry_of m text)) t q _ (bytes_eq q t) (bytes_eq-Decides q t)
entry_of-next m (Found t h) q = refl
entry_of-next m (Drop h) q = entry_of-alter (at_handle h lowered) m q
entry_of-next m (Perm h) q = entry_of-alter _ m q
entry_of-next m (Kill h) q = entry_of-alter _ m q
entry_of-next m (Claim s) q = refl
entry_of-next m (Free s) q = refl
entry_of-next m (Open c) q = refl
entry_of-next m Close q = refl
entry_of-next m Grace q = refl
entry_of-next m (Lock r b) q = refl
entry_of-next m (Unlock r b) q = refl
entry_of-next m (Unlink s) q = refl
entry_of-next m ResizeTaken q = refl
entry_of-next m ResizeGiven q = refl
entry_of-next m (Level l) q = refl
entry_of-next m (Rehash n) q = refl

pub same_entries : (m n : TextMap) → ((text : List ℕ) → entry_of m text ≡ entry_of n text) → m ≡ n
same_entries m n same = finite.same_map nat_list_cmp_total (finite.slice_cmp-IsAntisymmetric finite.nat_cmp-IsAntisymmetric) m n same
