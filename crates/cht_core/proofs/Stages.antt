-- What follows from the stage of a resize: where a text goes, and which heads those are.
use Rattle.std.proofs.Common.{◌≡◌, ◌≢◌, ℕ, zero, suc, ◌+◌, ◌-◌, ◌*◌, ◌/◌, ◌%◌, ◌^◌, ◌<◌, ◌≤◌, ◌⊎◌, nat_lt, Bool, true, false, Some, None, refl, sym, ap, subst, ◌∙◌, inl, inr, arith}
use Rattle.std.proofs.lemmas.Bool.{cases_eq, ltb-true, ltb-false}
use Rattle.std.proofs.Math.Nat.{add-mul-mod_self_left, add-mod_right, mod-add-div, mod-eq_of_lt, mod-lt, two-pow-succ}
use Rattle.cht_core.specs.Flow.{Flow, IsUsed, ComesTo, IsHome}
use Rattle.cht_core.specs.Stage.{Stage, Quiet, Growing, Splitting, Shrinking, Joining, Turning, Closing, bucket_in, next_row, named_level, IsInPairs, IsOffPairs, IsGone, IsLeft, IsOpen, IsBehind, IsSent, IsUnsent, IsMixed, IsNearIn, IsWithin, IsWhole}
use Rattle.cht_core.specs.Causes.{IsRowOf}
use Rattle.cht_core.specs.KnowsResize.{Resizing}
use Rattle.cht_core.specs.TableState.{IsClear, IsSettled}
use Rattle.intern_log.specs.Now.{Now, OpenSection, owner_of}

-- ROWS

pub row_up : (k : ℕ) → 0 < 2 ^ k
row_up zero = omega arith
row_up (suc k) = let half : 0 < 2 ^ k = row_up k in omega (arith, half)

pub bucket_below : (row hash : ℕ) → bucket_in row hash < 2 ^ row
bucket_below row hash = mod-lt hash (row_up row)

pub below_or : (x bound : ℕ) → (x < bound) ⊎ (bound ≤ x)
below_or x bound = go (nat_lt x bound) refl
  where
    go : (b : Bool) → nat_lt x bound ≡ b → (x < bound) ⊎ (bound ≤ x)
    go true is = inl (ltb-true x bound is)
    go false is = inr (ltb-false x bound is)

halved : (x c q r : ℕ) → 0 < c → x ≡ r + c * (2 * q) → r < c + c → (r ≡ x % c) ⊎ (r ≡ x % c + c)
halved x c q r up is less = elim (below_or r c) [
  | inl l ↦ inl (sym (ap (λ (k : ℕ). k % c) is ∙ add-mul-mod_self_left r c (2 * q) ∙ mod-eq_of_lt l))
  | inr g ↦ (
      let e : r ≡ (r - c) + c = omega arith in
      let f : r % c ≡ r - c = ap (λ (k : ℕ). k % c) e ∙ add-mod_right (r - c) c ∙ mod-eq_of_lt (omega arith) in
      let k : x % c ≡ r - c = ap (λ (k : ℕ). k % c) is ∙ add-mul-mod_self_left r c (2 * q) ∙ f in
      inr (omega arith))
]

pub next_row_size : (k : ℕ) → 2 ^ (k + 1) ≡ 2 ^ k + 2 ^ k
next_row_size k = let up : suc k ≡ k + 1 = omega arith in subst (λ (x : ℕ). 2 ^ x ≡ 2 ^ k + 2 ^ k) up (two-pow-succ k)

-- a text of a bucket is in the bucket of the same number, or in the one a row's size above it, in the next row
pub halves : (hash k : ℕ) → (bucket_in (k + 1) hash ≡ bucket_in k hash) ⊎ (bucket_in (k + 1) hash ≡ bucket_in k hash + 2 ^ k)
halves hash k =
    let up : 0 < 2 ^ k = row_up k in
    let twice_row : 2 ^ (k + 1) ≡ 2 ^ k + 2 ^ k = next_row_size k in
    let whole : hash % (2 ^ k + 2 ^ k) + (2 ^ k + 2 ^ k) * (hash / (2 ^ k + 2 ^ k)) ≡ hash = mod-add-div hash (2 ^ k + 2 ^ k) in
    subst (λ (size : ℕ). (hash % size ≡ bucket_in k hash) ⊎ (hash % size ≡ bucket_in k hash + 2 ^ k)) (sym twice_row)
    (halved hash (2 ^ k) (hash / (2 ^ k + 2 ^ k)) (hash % (2 ^ k + 2 ^ k)) up (sym whole ∙ ap (λ (z : ℕ). hash % (2 ^ k + 2 ^ k) + z) (twice (2 ^ k) (hash / (2 ^ k + 2 ^ k)))) (mod-lt hash (omega (arith, up))))
  where
    twice : (c q : ℕ) → (c + c) * q ≡ c * (2 * q)
    twice c q = grind arith

pub halves_low : (hash k b : ℕ) → b < 2 ^ k → bucket_in (k + 1) hash ≡ b → bucket_in k hash ≡ b
halves_low hash k b less e = elim (halves hash k) [ inl same ↦ sym same ∙ e | inr above ↦ absurd (omega (arith, above, e, less)) ]

pub halves_high : (hash k b : ℕ) → bucket_in (k + 1) hash ≡ b + 2 ^ k → bucket_in k hash ≡ b
halves_high hash k b e =
    let below : bucket_in k hash < 2 ^ k = bucket_below k hash in
    elim (halves hash k) [ inl same ↦ absurd (omega (arith, same, e, below)) | inr above ↦ omega (arith, above, e) ]

-- texts of one bucket are of one bucket in the row of half as many
pub coarser : (hash other k : ℕ) → bucket_in (k + 1) other ≡ bucket_in (k + 1) hash → bucket_in k other ≡ bucket_in k hash
coarser hash other k e =
    let a : bucket_in k hash < 2 ^ k = bucket_below k hash in
    let b : bucket_in k other < 2 ^ k = bucket_below k other in
    elim (halves hash k) [
      | inl x ↦ elim (halves other k) [ inl y ↦ omega (arith, x, y, e) | inr y ↦ absurd (omega (arith, x, y, e, a)) ]
      | inr x ↦ elim (halves other k) [ inl y ↦ absurd (omega (arith, x, y, e, b)) | inr y ↦ omega (arith, x, y, e) ]
    ]

-- a text of a pair below another, in the row of twice as many heads, is in one of the pair's two buckets
off_pairs : (hash k d : ℕ) → d ≤ bucket_in k hash → IsOffPairs (2 ^ k) d d (bucket_in (k + 1) hash)
off_pairs hash k d h =
    let less : bucket_in k hash < 2 ^ k = bucket_below k hash in
    elim (halves hash k) [
      | inl e ↦ (omega (arith, h, e), inl (omega (arith, less, e)))
      | inr e ↦ (omega (arith, h, e), inr (omega (arith, h, e)))
    ]

in_pairs : (hash k d : ℕ) → bucket_in k hash < d → IsInPairs (2 ^ k) d d (bucket_in (k + 1) hash)
in_pairs hash k d h = elim (halves hash k) [ inl e ↦ inl (omega (arith, h, e)) | inr e ↦ inr (omega (arith, e), omega (arith, h, e)) ]

-- WHERE A TEXT GOES

-- the buckets of the level's row, of texts that are not sent on
pub left_here : (st : Stage) (l hash : ℕ) → IsWithin st l → IsUnsent st l hash → IsLeft st (bucket_in l hash)
left_here Quiet l hash w h = tt
left_here (Growing d) l hash w h = h
left_here (Splitting a) l hash w h = h
left_here (Shrinking k d) l hash w h = subst (λ (x : ℕ). IsLeft (Shrinking k d) (bucket_in x hash)) (sym w.0) (off_pairs hash k d h)
left_here (Joining k a) l hash w h = subst (λ (x : ℕ). IsLeft (Joining k a) (bucket_in x hash)) (sym w.0) (off_pairs hash k a h)
left_here (Turning k a) l hash w h = subst (λ (x : ℕ). IsLeft (Turning k a) (bucket_in x hash)) (sym w.0) (
    let o : IsOffPairs (2 ^ k) a a (bucket_in (k + 1) hash) = off_pairs hash k a h.0 in
    let other : bucket_in (k + 1) hash ≢ a = h.1 in
    let least : a ≤ bucket_in (k + 1) hash = o.0 in
    (elim (cases_eq (bucket_in (k + 1) hash) a) [ inl e ↦ absurd (other e) | inr n ↦ omega (arith, least, n) ], o.1))
left_here Closing l hash w h = tt

pub gone_here : (st : Stage) (l hash : ℕ) → IsWithin st l → IsSent st l hash → IsGone st (bucket_in l hash)
gone_here Quiet l hash w h = h
gone_here (Growing d) l hash w h = h
gone_here (Splitting a) l hash w h = h
gone_here (Shrinking k d) l hash w h = subst (λ (x : ℕ). IsGone (Shrinking k d) (bucket_in x hash)) (sym w.0) (in_pairs hash k d h)
gone_here (Joining k a) l hash w h = subst (λ (x : ℕ). IsGone (Joining k a) (bucket_in x hash)) (sym w.0) (in_pairs hash k a h)
gone_here (Turning k a) l hash w h = subst (λ (x : ℕ). IsGone (Turning k a) (bucket_in x hash)) (sym w.0) (elim h [
  | inl x ↦ elim (in_pairs hash k a x) [ inl y ↦ inl (omega (arith, y)) | inr y ↦ inr y ]
  | inr x ↦ inl (omega (arith, x))
])
gone_here Closing l hash w h = h

pub open_there : (st : Stage) (l hash : ℕ) → IsWithin st l → IsSent st l hash → IsOpen st l (bucket_in (next_row st l) hash)
open_there Quiet l hash w h = h
open_there (Growing d) l hash w h = in_pairs hash l d h
open_there (Splitting a) l hash w h = in_pairs hash l (a + 1) h
open_there (Shrinking k d) l hash w h = h
open_there (Joining k a) l hash w h = h
open_there (Turning k a) l hash w h = elim h [
  | inl x ↦ omega (arith, x)
  | inr x ↦ (let b : a < 2 ^ k = w.1 in let y : bucket_in k hash ≡ a = halves_low hash k a b x in omega (arith, y))
]
open_there Closing l hash w h = h

pub sent_or : (st : Stage) (l hash : ℕ) → IsSent st l hash ⊎ IsUnsent st l hash
sent_or Quiet l hash = inr tt
sent_or (Growing d) l hash = below_or (bucket_in l hash) d
sent_or (Splitting a) l hash = below_or (bucket_in l hash) (a + 1)
sent_or (Shrinking k d) l hash = below_or (bucket_in k hash) d
sent_or (Joining k a) l hash = below_or (bucket_in k hash) a
sent_or (Turning k a) l hash = elim (below_or (bucket_in k hash) a) [
  | inl x ↦ inl (inl x)
  | inr x ↦ elim (cases_eq (bucket_in (k + 1) hash) a) [ inl e ↦ inl (inr e) | inr ne ↦ inr (x, ne) ]
]
sent_or Closing l hash = inr tt

pub sent_not : (st : Stage) (l hash : ℕ) → IsSent st l hash → IsUnsent st l hash → ⊥
sent_not Quiet l hash h k = h
sent_not (Growing d) l hash h k = omega (arith, h, k)
sent_not (Splitting a) l hash h k = omega (arith, h, k)
sent_not (Shrinking c d) l hash h k = omega (arith, h, k)
sent_not (Joining c a) l hash h k = omega (arith, h, k)
sent_not (Turning c a) l hash h k = elim h [ inl x ↦ (let y : a ≤ bucket_in c hash = k.0 in omega (arith, x, y)) | inr x ↦ k.1 x ]
sent_not Closing l hash h k = h

-- a caller comes to a head to which callers come, and in one row alone
pub comes_used : (n : Now) (f : Flow) (hash row : ℕ) → IsWithin f.stage n.level → ComesTo n f hash row → IsUsed n f row (bucket_in row hash)
comes_used n f hash row w h = elim h [
  | inl a ↦ subst (λ (x : ℕ). IsUsed n f x (bucket_in x hash)) (sym a.0) (inl (refl, left_here f.stage n.level hash w a.1, bucket_below n.level hash))
  | inr a ↦ subst (λ (x : ℕ). IsUsed n f x (bucket_in x hash)) (sym a.0) (inr (refl, open_there f.stage n.level hash w a.1))
]

pub comes_one : (n : Now) (f : Flow) (hash row other : ℕ) → ComesTo n f hash row → ComesTo n f hash other → row ≡ other
comes_one n f hash row other h k = elim h [
  | inl a ↦ elim k [ inl b ↦ a.0 ∙ sym b.0 | inr b ↦ absurd (sent_not f.stage n.level hash b.1 a.1) ]
  | inr a ↦ elim k [ inr b ↦ a.0 ∙ sym b.0 | inl b ↦ absurd (sent_not f.stage n.level hash a.1 b.1) ]
]

-- to some row each caller comes
pub comes_somewhere : (n : Now) (f : Flow) (hash : ℕ) → (row : ℕ) × ComesTo n f hash row
comes_somewhere n f hash = elim (sent_or f.stage n.level hash) [ inl s ↦ (next_row f.stage n.level, inr (refl, s)) | inr s ↦ (n.level, inl (refl, s)) ]

-- HEADS THAT ARE LEFT

pub gone_behind : (st : Stage) (l before row b : ℕ) → row ≡ l → IsGone st b → IsBehind st l before row b
gone_behind Quiet l before row b e less = absurd less
gone_behind (Growing d) l before row b e less = (e, less)
gone_behind (Splitting d) l before row b e less = (e, less)
gone_behind (Shrinking k d) l before row b e less = (e, less)
gone_behind (Joining k d) l before row b e less = (e, less)
gone_behind (Turning k d) l before row b e less = (e, less)
gone_behind Closing l before row b e less = absurd less

-- a section from before the last Level is open in the last stage alone
pub old_is_closing : (st : Stage) (n : Now) (k : ℕ) (o : OpenSection) → IsClear st n → n.section k ≡ Some o → o.place < n.since → st ≡ Closing
old_is_closing Quiet n k o clear inside less = absurd (let x : n.since ≤ o.place = clear k o inside in omega (arith, x, less))
old_is_closing (Growing d) n k o clear inside less = absurd (let x : n.since ≤ o.place = clear k o inside in omega (arith, x, less))
old_is_closing (Splitting d) n k o clear inside less = absurd (let x : n.since ≤ o.place = clear k o inside in omega (arith, x, less))
old_is_closing (Shrinking j d) n k o clear inside less = absurd (let x : n.since ≤ o.place = clear k o inside in omega (arith, x, less))
old_is_closing (Joining j d) n k o clear inside less = absurd (let x : n.since ≤ o.place = clear k o inside in omega (arith, x, less))
old_is_closing (Turning j d) n k o clear inside less = absurd (let x : n.since ≤ o.place = clear k o inside in omega (arith, x, less))
old_is_closing Closing n k o clear inside less = refl

-- a text that is sent on is sent to the named level, which is the next row
pub sent_named : (st : Stage) (l hash : ℕ) → IsSent st l hash → named_level st l ≡ Some (next_row st l)
sent_named Quiet l hash less = absurd less
sent_named (Growing d) l hash less = refl
sent_named (Splitting d) l hash less = refl
sent_named (Shrinking k d) l hash less = refl
sent_named (Joining k d) l hash less = refl
sent_named (Turning k d) l hash less = refl
sent_named Closing l hash less = absurd less

-- NODES OF A WALK

-- a node of the chain to which a caller comes may be on its walk
pub home_near : (n : Now) (f : Flow) (at hash row other : ℕ) → IsWithin f.stage n.level → ComesTo n f hash row → IsHome n f row (bucket_in row hash) other → IsNearIn f.stage n.level n.since at hash other
home_near n f at hash row other w to home = go f.stage refl
  where
    near : (st : Stage) → IsWithin st n.level → ((row ≡ n.level) × IsUnsent st n.level hash) ⊎ ((row ≡ next_row st n.level) × IsSent st n.level hash) →
        (bucket_in row other ≡ bucket_in row hash) ⊎ IsMixed st n.level row (bucket_in row hash) other → IsNearIn st n.level n.since at hash other
    near Quiet w to home = elim home [
      | inr z ↦ absurd z
      | inl e ↦ elim to [ inl a ↦ subst (λ (x : ℕ). bucket_in x other ≡ bucket_in x hash) a.0 e | inr a ↦ absurd a.1 ]
    ]
    near (Growing d) w to home = elim home [
      | inr z ↦ absurd z
      | inl e ↦ elim to [
        | inl a ↦ (subst (λ (x : ℕ). bucket_in x other ≡ bucket_in x hash) a.0 e, λ less. absurd (let least : d ≤ bucket_in n.level hash = a.1 in omega (arith, least, less)))
        | inr a ↦ (let x : bucket_in (n.level + 1) other ≡ bucket_in (n.level + 1) hash = subst (λ (x : ℕ). bucket_in x other ≡ bucket_in x hash) a.0 e in (coarser hash other n.level x, λ less. x))
      ]
    ]
    near (Splitting d) w to home = elim home [
      | inr z ↦ (
          let mine : bucket_in n.level hash ≡ d = elim z.2 [
            | inl y ↦ halves_low hash n.level d w (subst (λ (x : ℕ). bucket_in x hash ≡ d) z.0 y)
            | inr y ↦ halves_high hash n.level d (subst (λ (x : ℕ). bucket_in x hash ≡ d + 2 ^ n.level) z.0 y)
          ] in
          (z.1 ∙ sym mine, λ less. absurd (omega (arith, mine, less))))
      | inl e ↦ elim to [
        | inl a ↦ (subst (λ (x : ℕ). bucket_in x other ≡ bucket_in x hash) a.0 e, λ less. absurd (let least : d + 1 ≤ bucket_in n.level hash = a.1 in omega (arith, least, less)))
        | inr a ↦ (let x : bucket_in (n.level + 1) other ≡ bucket_in (n.level + 1) hash = subst (λ (x : ℕ). bucket_in x other ≡ bucket_in x hash) a.0 e in (coarser hash other n.level x, λ less. x))
      ]
    ]
    near (Shrinking k d) w to home = elim home [
      | inr z ↦ absurd z
      | inl e ↦ elim to [
        | inl a ↦ (let x : bucket_in (k + 1) other ≡ bucket_in (k + 1) hash = subst (λ (x : ℕ). bucket_in x other ≡ bucket_in x hash) (a.0 ∙ w.0) e in (coarser hash other k x, λ le. x))
        | inr a ↦ (subst (λ (x : ℕ). bucket_in x other ≡ bucket_in x hash) a.0 e, λ le. absurd (let y : bucket_in k hash < d = a.1 in omega (arith, y, le)))
      ]
    ]
    near (Joining k d) w to home = elim home [
      | inr z ↦ (let mine : bucket_in k hash ≡ d = halves_low hash k d w.1 (subst (λ (x : ℕ). bucket_in x hash ≡ d) z.0 z.2) in (z.1 ∙ sym mine, λ odd. absurd (odd.1 (subst (λ (x : ℕ). bucket_in x hash ≡ d) z.0 z.2))))
      | inl e ↦ elim to [
        | inl a ↦ (let x : bucket_in (k + 1) other ≡ bucket_in (k + 1) hash = subst (λ (x : ℕ). bucket_in x other ≡ bucket_in x hash) (a.0 ∙ w.0) e in (coarser hash other k x, λ le. x))
        | inr a ↦ (subst (λ (x : ℕ). bucket_in x other ≡ bucket_in x hash) a.0 e, λ le. absurd (let y : bucket_in k hash < d = a.1 in omega (arith, y, le)))
      ]
    ]
    near (Turning k d) w to home = elim home [
      | inr z ↦ absurd z
      | inl e ↦ elim to [
        | inl a ↦ (let x : bucket_in (k + 1) other ≡ bucket_in (k + 1) hash = subst (λ (x : ℕ). bucket_in x other ≡ bucket_in x hash) (a.0 ∙ w.0) e in (coarser hash other k x, λ le. x))
        | inr a ↦ (
          subst (λ (x : ℕ). bucket_in x other ≡ bucket_in x hash) a.0 e,
          λ odd. absurd (elim a.1 [ inl y ↦ (let least : d ≤ bucket_in k hash = odd.0 in omega (arith, y, least)) | inr y ↦ odd.1 y ]),
        )
      ]
    ]
    near Closing w to home = λ le. elim home [
      | inr z ↦ absurd z
      | inl e ↦ elim to [ inl a ↦ subst (λ (x : ℕ). bucket_in x other ≡ bucket_in x hash) a.0 e | inr a ↦ absurd a.1 ]
    ]

    go : (st : Stage) → f.stage ≡ st → IsNearIn f.stage n.level n.since at hash other
    go st is = near f.stage w to home

-- the row to which a text is sent on is another than that of the level
pub next_is_another : (st : Stage) (l hash : ℕ) → IsWithin st l → IsSent st l hash → l ≢ next_row st l
next_is_another Quiet l hash w sent same = sent
next_is_another (Growing d) l hash w sent same = omega (arith, same)
next_is_another (Splitting d) l hash w sent same = omega (arith, same)
next_is_another (Shrinking k d) l hash w sent same = (let up : l ≡ k + 1 = w.0 in omega (arith, same, up))
next_is_another (Joining k d) l hash w sent same = (let up : l ≡ k + 1 = w.0 in omega (arith, same, up))
next_is_another (Turning k d) l hash w sent same = (let up : l ≡ k + 1 = w.0 in omega (arith, same, up))
next_is_another Closing l hash w sent same = sent

-- HEADS AFTER A STEP

abbrev UsedIn : ℕ → Stage → ℕ → ℕ → Type 0
UsedIn l st row b = ((row ≡ l) × IsLeft st b × (b < 2 ^ row)) ⊎ ((row ≡ next_row st l) × IsOpen st l b)

-- a head to which callers come is one still, where the level and the stage stay
pub same_used : (n n' : Now) (f f' : Flow) (row b : ℕ) → n'.level ≡ n.level → f'.stage ≡ f.stage → IsUsed n f row b → IsUsed n' f' row b
same_used n n' f f' row b level stage used =
    subst (λ (l : ℕ). UsedIn l f'.stage row b) (sym level) (subst (λ (st : Stage). UsedIn n.level st row b) (sym stage) used)

-- what the owner of the resize lock knows goes on, where the level and the stage stay, and nobody locks a head to which no callers come
pub resizing_on : (n n' : Now) (f f' : Flow) (i level : ℕ) (stage : Stage) (except : ℕ → ℕ → Type 0) → owner_of n'.resizing ≡ Some i → n'.level ≡ n.level → f'.stage ≡ f.stage
    → ((row b : ℕ) → ¬ (IsUsed n f row b) → n.lock row b ≡ None → n'.lock row b ≡ None) → Resizing n f i level stage except → Resizing n' f' i level stage except
resizing_on n n' f f' i level stage except owner same_level same_stage free h = record {
  owner = owner;
  at_level = same_level ∙ h.at_level;
  at_stage = same_stage ∙ h.at_stage;
  free = λ row b unused other beyond.
      let was : ¬ (IsUsed n f row b) = λ used. unused (same_used n n' f f' row b same_level same_stage used) in
      free row b was (h.free row b was other (λ at. subst (λ (l : ℕ). 2 ^ l ≤ b) same_level (beyond (at ∙ sym same_level))));
}

-- where no resize goes on, callers come to each head of the level's row
pub quiet_used : (n : Now) (f : Flow) (row b : ℕ) → f.stage ≡ Quiet → row ≡ n.level → b < 2 ^ row → IsUsed n f row b
quiet_used n f row b quiet at below = inl (at, subst (λ (st : Stage). IsLeft st b) (sym quiet) tt, below)

-- and a text on a chain is of its bucket
pub quiet_home : (n : Now) (f : Flow) (row b hash : ℕ) → f.stage ≡ Quiet → IsHome n f row b hash → bucket_in row hash ≡ b
quiet_home n f row b hash quiet home = elim home [ inl exact ↦ exact | inr mixed ↦ absurd (subst (λ (st : Stage). IsMixed st n.level row b hash) quiet mixed) ]

-- ROWS TO WHICH CALLERS COME

-- where callers come to a head of the next row, that is one above or one below the level, and the level's row is not whole
open_row : (st : Stage) (l b : ℕ) → IsWithin st l → IsOpen st l b → ¬ (IsWhole st) × ((next_row st l ≡ l + 1) ⊎ (l ≡ next_row st l + 1))
open_row Quiet l b w o = absurd o
open_row (Growing d) l b w o = (λ whole. elim o [ inl x ↦ omega (arith, x, whole) | inr x ↦ (let least : 2 ^ l ≤ b = x.0 in let less : b < d + 2 ^ l = x.1 in omega (arith, least, less, whole)) ], inl refl)
open_row (Splitting a) l b w o = (λ whole. whole, inl refl)
open_row (Shrinking k d) l b w o = (λ whole. omega (arith, o, whole), inr w.0)
open_row (Joining k a) l b w o = (λ whole. whole, inr w.0)
open_row (Turning k a) l b w o = (λ whole. whole, inr w.0)
open_row Closing l b w o = absurd o

-- the row of a head to which callers come
pub row_of_used : (n : Now) (f : Flow) (row b : ℕ) → IsWithin f.stage n.level → (IsSettled n → IsWhole f.stage) → IsUsed n f row b → IsRowOf n row
row_of_used n f row b w whole used = elim used [
  | inl here ↦ inl here.0
  | inr next ↦
      let at = open_row f.stage n.level b w next.1 in
      inr (λ settled. at.0 (whole settled), subst (λ (r : ℕ). (r ≡ n.level + 1) ⊎ (n.level ≡ r + 1)) (sym next.0) at.1)
]
