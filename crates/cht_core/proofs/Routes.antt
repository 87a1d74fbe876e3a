-- Where a walker that was sent to a row comes to: a head to which callers come, or one that is redirected.
use Rattle.std.proofs.Common.{◌≡◌, ℕ, ◌/◌, ◌%◌, ◌^◌, ◌<◌, ◌≤◌, ◌⊎◌, true, false, Option, Some, None, refl, sym, ap, subst, ◌∙◌, inl, inr, arith}
use Rattle.std.proofs.lemmas.Bool.{eq-eqb}
use Rattle.marked_word.specs.Head.{is_redirected}
use Rattle.table_shape.specs.declared.place.Place.TheVariants as place
use Rattle.intern_log.specs.Now.{Now, OpenSection}
use Rattle.atomic_step.specs.Step.{redirected_head}
use Rattle.cht_core.specs.declared.table.Table.{Table}
use Rattle.cht_core.specs.Flow.{Flow, IsUsed, ComesTo}
use Rattle.cht_core.specs.Heads.{Heads, used_head}
use Rattle.cht_core.specs.Memory.{Memory}
use Rattle.cht_core.specs.Past.{Past}
use Rattle.cht_core.specs.Search.{IsRouted, IsSentOn}
use Rattle.cht_core.specs.Stage.{Stage, Quiet, Growing, Splitting, Shrinking, Joining, Turning, Closing, bucket_in, IsGone, IsBehind, IsPinned, IsJoined}
use Rattle.cht_core.specs.TableState.{IsTable, IsClear, IsSettled}
use Rattle.cht_core.proofs.Stages.{bucket_below, sent_or, sent_not, gone_here, gone_behind, old_is_closing}
use Rattle.cht_core.proofs.TwoChains.{left_or_gone, whole_unsent}

-- the word of a head to which callers come is not that of a redirected one
pub used_or_redirected : (first lock other : Option ℕ) → used_head first lock ≡ redirected_head other → ⊥
used_or_redirected first None other same = omega (arith, same)
used_or_redirected first (Some k) other same = omega (arith, same)

pub redirected_mark : (first : Option ℕ) → is_redirected (redirected_head first) ≡ true
redirected_mark first = let odd : redirected_head first / 2 % 2 ≡ 1 = omega arith in eq-eqb (redirected_head first / 2 % 2) 1 odd

-- so a head that is left is none to which callers come
pub behind_unused : (m : Memory) (n : Now) (f : Flow) (row bucket : ℕ) → Heads m n f → IsBehind f.stage n.level f.before row bucket → IsUsed n f row bucket → ⊥
behind_unused m n f row bucket heads behind used =
    let left = heads.behind row bucket behind in
    let way = heads.paths row bucket used in
    used_or_redirected way.0 (n.lock row bucket) left.0 (sym way.1 ∙ left.1)

pub gone_unused : (m : Memory) (n : Now) (f : Flow) (row bucket : ℕ) → Heads m n f → row ≡ n.level → IsGone f.stage bucket → IsUsed n f row bucket → ⊥
gone_unused m n f row bucket heads here gone used = behind_unused m n f row bucket heads (gone_behind f.stage n.level f.before row bucket here gone) used

-- each head of the level's row is redirected, or callers come to it
pub row_cases : (n : Now) (f : Flow) (bucket : ℕ) → bucket < 2 ^ n.level → IsUsed n f n.level bucket ⊎ IsGone f.stage bucket
row_cases n f bucket below = elim (left_or_gone f.stage bucket) [ inl left ↦ inl (inl (refl, left, below)) | inr gone ↦ inr gone ]

-- a head of the level's row that is not redirected is one to which callers come
pub used_where_plain : (m : Memory) (n : Now) (f : Flow) (bucket : ℕ) → Heads m n f → bucket < 2 ^ n.level → is_redirected (m (place.Head n.level bucket)) ≡ false → IsUsed n f n.level bucket
used_where_plain m n f bucket heads below plain = elim (row_cases n f bucket below) [
  | inl used ↦ used
  | inr gone ↦ (
      let word = heads.behind n.level bucket (gone_behind f.stage n.level f.before n.level bucket refl gone) in
      let clash : true ≡ false = sym (redirected_mark word.0) ∙ ap is_redirected (sym word.1) ∙ plain in
      absurd (cc))
]

-- where a walker comes to: callers come to its head too, or it is redirected, and the walker is sent on
pub lands_at : (t : Table) (m : Memory) (p : Past) (f : Flow) (k hash row : ℕ) (o : OpenSection) → IsTable t m p f → p.now.section k ≡ Some o → IsRouted p.now f o.place hash row
    → ComesTo p.now f hash row ⊎ (IsSentOn p.now f o.place hash row × IsBehind f.stage p.now.level f.before row (bucket_in row hash))
lands_at t m p f k hash row o table inside routed = elim routed [
  | inl here ↦ elim (sent_or f.stage p.now.level hash) [
    | inl sent ↦ inr (
      inl (here, sent),
      gone_behind f.stage p.now.level f.before row (bucket_in row hash) here
          (subst (λ (r : ℕ). IsGone f.stage (bucket_in r hash)) (sym here) (gone_here f.stage p.now.level hash table.chains.within sent)),
    )
    | inr unsent ↦ inl (inl (here, unsent))
  ]
  | inr other ↦ elim other [
    | inl there ↦ inl (inr there)
    | inr before ↦ (
        let closing : f.stage ≡ Closing = old_is_closing f.stage p.now k o table.clear inside before.1 in
        inr (inr before, subst (λ (st : Stage). IsBehind st p.now.level f.before row (bucket_in row hash)) (sym closing) (before.0, bucket_below row hash)))
  ]
]

-- a walker whose head is not redirected is where callers come
pub comes_where_plain : (t : Table) (m : Memory) (p : Past) (f : Flow) (k hash row : ℕ) (o : OpenSection) → IsTable t m p f → p.now.section k ≡ Some o → IsRouted p.now f o.place hash row
    → is_redirected (m (place.Head row (bucket_in row hash))) ≡ false → ComesTo p.now f hash row
comes_where_plain t m p f k hash row o table inside routed plain = elim (lands_at t m p f k hash row o table inside routed) [
  | inl comes ↦ comes
  | inr on ↦ (
      let left = table.heads.behind row (bucket_in row hash) on.1 in
      let clash : true ≡ false = sym (redirected_mark left.0) ∙ ap is_redirected (sym left.1) ∙ plain in
      absurd (cc))
]

-- a walker whose section was opened since the last Level is in the level's row, while no row is being replaced
pub settled_row : (t : Table) (m : Memory) (p : Past) (f : Flow) (hash row : ℕ) (o : OpenSection) → IsTable t m p f → IsRouted p.now f o.place hash row → IsSettled p.now → p.now.since ≤ o.place
    → row ≡ p.now.level
settled_row t m p f hash row o table routed settled new = elim routed [
  | inl here ↦ here
  | inr other ↦ elim other [
    | inl there ↦ absurd (sent_not f.stage p.now.level hash there.1 (whole_unsent f.stage p.now.level hash (table.whole settled)))
    | inr before ↦ absurd (let old : o.place < p.now.since = before.1 in omega (arith, old, new))
  ]
]

-- and each is, while nobody has the resize lock
pub free_row : (t : Table) (m : Memory) (p : Past) (f : Flow) (k hash row : ℕ) (o : OpenSection) → IsTable t m p f → p.now.section k ≡ Some o → IsRouted p.now f o.place hash row
    → p.now.resizing ≡ None → row ≡ p.now.level
free_row t m p f k hash row o table inside routed free =
    let clear : IsClear Quiet p.now = subst (λ (st : Stage). IsClear st p.now) (table.idle free) table.clear in
    settled_row t m p f hash row o table routed (λ r is. let clash : None ≡ Some r = sym free ∙ is in absurd (cc)) (clear k o inside)

-- a head whose chain leads on to that of another is locked
pub joined_pinned : (st : Stage) (l row b : ℕ) → IsJoined st row b → IsPinned st l row b
joined_pinned Quiet l row b h = absurd h
joined_pinned (Growing d) l row b h = absurd h
joined_pinned (Splitting a) l row b h = absurd h
joined_pinned (Shrinking k d) l row b h = absurd h
joined_pinned (Joining k a) l row b h = (h.0, inl h.1)
joined_pinned (Turning k a) l row b h = absurd h
joined_pinned Closing l row b h = absurd h

-- a head that nobody has locked is none
pub joined_locked : (m : Memory) (n : Now) (f : Flow) (row bucket : ℕ) → Heads m n f → n.lock row bucket ≡ None → IsJoined f.stage row bucket → ⊥
joined_locked m n f row bucket heads unlocked joined =
    let lock = heads.pinned row bucket (joined_pinned f.stage n.level row bucket joined) in
    let clash : None ≡ Some lock.0 = sym unlocked ∙ lock.2 in
    absurd (cc)
