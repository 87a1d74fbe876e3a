-- Two live texts never have one handle.
use Rattle.std.proofs.Common.{◌≡◌, ℕ, Bool, true, false, cond, List, [], ◌∷◌, Option, Some, None, ◌-◌, ◌==◌, nat_le, ◌&&◌, ◌⊎◌, inl, inr, refl, sym, ap, subst, ◌∙◌}
use Rattle.std.specs.Bool.{Decides}
use Rattle.std.specs.Str.{bytes_eq}
use Rattle.std.specs.Option.{option_map, option_and_then}
use Rattle.std.proofs.lemmas.Slice.Eq.{bytes_eq-Decides}
use Rattle.std.proofs.lemmas.Bool.Decides.{Decides-eqb}
use Rattle.std.specs.FinMap as finite
use Rattle.std.specs.Ordering.{nat_cmp}
use Rattle.std.specs.Cmp.Lexicographic.{slice_cmp}
use Rattle.intern_log.specs.declared.event.Handle.{Handle}
use Rattle.intern_log.specs.declared.event.Entry.{Entry}
use Rattle.intern_log.specs.declared.event.Event.{Event}
use Rattle.intern_log.specs.declared.event.What.{What}
use Rattle.intern_log.specs.declared.event.What.TheVariants.{Create, Take, Found, Drop, Perm, Kill, Claim, Free, Open, Close, Grace, Lock, Unlock, Unlink, ResizeTaken, ResizeGiven, Level, Rehash}
use Rattle.intern_log.specs.TextMap.{TextMap, no_texts, entry_of, handle_eq, HasHandle, at_handle}
use Rattle.intern_log.specs.Log.{next, entry_after, new_entry, raised, lowered, made_permanent, Allows, map_after, map_of, IsLegalFrom, IsLegal, HandlesDiffer}
use Rattle.intern_log.proofs.Entries.{entry_of-next}

-- a change that keeps the handle of each entry that it leaves
abbrev pub KeepsHandles : (Entry → Option Entry) → Type 0
KeepsHandles change = (e f : Entry) → change e ≡ Some f → f.handle ≡ e.handle

-- there was an entry with this handle
abbrev WasThere : Option Entry → Handle → Type 0
WasThere before h = (e : Entry) × (before ≡ Some e) × (h ≡ e.handle)

pub same_entry : (e f : Entry) → Some e ≡ Some f → f.handle ≡ e.handle
same_entry e f is = let same : e ≡ f = cc in ap (λ (x : Entry). x.handle) (sym same)

one_of : (change other : Entry → Option Entry) (b : Bool) → KeepsHandles change → KeepsHandles other → KeepsHandles (λ e. cond b (change e) (other e))
one_of change other true keeps others e f is = keeps e f is
one_of change other false keeps others e f is = others e f is

stays_keeps : KeepsHandles (λ e. Some e)
stays_keeps e f is = same_entry e f is

pub lowered_keeps : KeepsHandles lowered
lowered_keeps e f is =
    one_of (λ x. Some x) (λ x. cond (nat_le e.count 1) None (Some (record x { count = x.count - 1 }))) (e.count == 65535) stays_keeps
    (one_of (λ x. None) (λ x. Some (record x { count = x.count - 1 })) (nat_le e.count 1) (λ x y no. absurd (cc)) (λ x y same. same_entry (record x { count = x.count - 1 }) y same)) e f is

at_handle_keeps : (h : Handle) (change : Entry → Option Entry) → KeepsHandles change → KeepsHandles (at_handle h change)
at_handle_keeps h change keeps e f is = one_of change (λ x. Some x) (handle_eq e.handle h) keeps stays_keeps e f is

was_there : (change : Entry → Option Entry) → KeepsHandles change → (o : Option Entry) (f : Entry) → option_and_then change o ≡ Some f → WasThere o f.handle
was_there change keeps None f is = absurd (cc)
was_there change keeps (Some e) f is = (e, refl, keeps e f is)

-- an entry that is there after an event was there before with its handle, or the event created it
origin : (what : What) (t : List ℕ) (o : Option Entry) (f : Entry) → entry_after what t o ≡ Some f → WasThere o f.handle ⊎ (what ≡ Create t f.handle)
origin (Create text h) t o f is = created (bytes_eq t text) (bytes_eq-Decides t text) is
  where
    created : (b : Bool) → Decides b (t ≡ text) → cond b (Some (new_entry h)) o ≡ Some f → WasThere o f.handle ⊎ (Create text h ≡ Create t f.handle)
    created true decided is = inr (ap (λ x. Create x h) (sym (decided.0 refl)) ∙ ap (Create t) (sym (same_entry (new_entry h) f is)))
    created false decided is = inl (f, is, refl)
origin (Take text h) t o f is = taken (bytes_eq t text) o is
  where
    taken : (b : Bool) (o : Option Entry) → cond b (option_map raised o) o ≡ Some f → WasThere o f.handle ⊎ (Take text h ≡ Create t f.handle)
    taken true None is = absurd (cc)
    taken true (Some e) is = inl (e, refl, same_entry (raised e) f is)
    taken false o is = inl (f, is, refl)
origin (Drop h) t o f is = inl (was_there (at_handle h lowered) (at_handle_keeps h lowered lowered_keeps) o f is)
origin (Perm h) t o f is = inl (was_there (at_handle h (λ e. Some (made_permanent e))) (at_handle_keeps h _ (λ x y same. same_entry (made_permanent x) y same)) o f is)
origin (Kill h) t o f is = inl (was_there (at_handle h (λ e. None)) (at_handle_keeps h _ (λ x y no. absurd (cc))) o f is)
origin (Found text h) t o f is = inl (f, is, refl)
origin (Claim s) t o f is = inl (f, is, refl)
origin (Free s) t o f is = inl (f, is, refl)
origin (Open c) t o f is = inl (f, is, refl)
origin Close t o f is = inl (f, is, refl)
origin Grace t o f is = inl (f, is, refl)
origin (Lock r b) t o f is = inl (f, is, refl)
origin (Unlock r b) t o f is = inl (f, is, refl)
origin (Unlink s) t o f is = inl (f, is, refl)
origin ResizeTaken t o f is = inl (f, is, refl)
origin ResizeGiven t o f is = inl (f, is, refl)
origin (Level l) t o f is = inl (f, is, refl)
origin (Rehash n) t o f is = inl (f, is, refl)

-- the same of the map
pub origin_in_map : (m : TextMap) (what : What) (t : List ℕ) (h : Handle) → HasHandle (next m what) t h → HasHandle m t h ⊎ (what ≡ Create t h)
origin_in_map m what t h has =
    elim (origin what t (entry_of m t) has.0 (sym (entry_of-next m what t) ∙ has.1)) [
      | inl was ↦ inl (was.0, was.1, sym was.2 ∙ has.2)
      | inr made ↦ inr (made ∙ ap (Create t) has.2)
    ]

-- the text of a Create
pub created_text : (t u : List ℕ) (h k : Handle) → Create t h ≡ Create u k → t ≡ u
created_text t u h k is = cc

-- a handle that a Create may give is not live
none_live : (m : TextMap) (what : What) (t u : List ℕ) (h : Handle) → Allows m what → what ≡ Create t h → HasHandle m u h → ⊥
none_live m what t u h allowed is has = let free : Allows m (Create t h) = subst (Allows m) is allowed in free.1 (u, has)

pub HandlesDiffer-next : (m : TextMap) (what : What) → HandlesDiffer m → Allows m what → HandlesDiffer (next m what)
HandlesDiffer-next m what differ allowed t u h at_t at_u =
    elim (origin_in_map m what t h at_t) [
      | inl t_was ↦ elim (origin_in_map m what u h at_u) [
        | inl u_was ↦ differ t u h t_was u_was
        | inr u_made ↦ absurd (none_live m what u t h allowed u_made t_was)
      ]
      | inr t_made ↦ elim (origin_in_map m what u h at_u) [
        | inl u_was ↦ absurd (none_live m what t u h allowed t_made u_was)
        | inr u_made ↦ created_text t u h h (sym t_made ∙ u_made)
      ]
    ]

pub HandlesDiffer-after : (m : TextMap) (log : List Event) → HandlesDiffer m → IsLegalFrom m log → HandlesDiffer (map_after m log)
HandlesDiffer-after m [] differ legal = differ
HandlesDiffer-after m (e ∷ log) differ legal = HandlesDiffer-after (next m e.what) log (HandlesDiffer-next m e.what differ legal.0) legal.1

pub no_text_has : (t : List ℕ) (h : Handle) → HasHandle no_texts t h → ⊥
no_text_has t h has = let none : entry_of no_texts t ≡ None = finite.get-empty (slice_cmp nat_cmp) t in absurd (cc)

pub HandlesDiffer-none : HandlesDiffer no_texts
HandlesDiffer-none t u h at_t at_u = absurd (no_text_has t h at_t)

pub live_handles_differ_lem : (log : List Event) → IsLegal log → HandlesDiffer (map_of log)
live_handles_differ_lem log legal = HandlesDiffer-after no_texts log HandlesDiffer-none legal

pub both_hold : (x y : Bool) → (x && y) ≡ true → (x ≡ true) × (y ≡ true)
both_hold true y is = (refl, is)
both_hold false y is = absurd (not_so is)
  where
    not_so : false ≡ true → ⊥
    not_so equal = cc

pub same_as_itself : (a : Handle) → handle_eq a a ≡ true
same_as_itself a =
    let slots = (Decides-eqb a.slot a.slot).1 refl in
    let generations = (Decides-eqb a.generation a.generation).1 refl in
    ap (λ x. x && (a.generation == a.generation)) slots ∙ generations

-- two handles are the same where the test says so
pub handle_eq-Decides : (a b : Handle) → Decides (handle_eq a b) (a ≡ b)
handle_eq-Decides a b = (
  (λ is. let parts = both_hold (a.slot == b.slot) (a.generation == b.generation) is in
      let slots = (Decides-eqb a.slot b.slot).0 parts.0 in
      let generations = (Decides-eqb a.generation b.generation).0 parts.1 in
      λ i. record { slot = slots i; generation = generations i }),
  (λ same. subst (λ k. handle_eq a k ≡ true) same (same_as_itself a)),
)
