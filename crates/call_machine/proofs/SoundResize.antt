-- A grow and a shrink stay sound by each word that they may be told.
use Rattle.std.proofs.Common.{◌≡◌, ◌∙◌, ap, ◌<◌, ◌≤◌, ◌/◌, ◌^◌, ◌+◌, ◌-◌, ◌*◌, ℕ, Option, Some, None, refl, ◌==◌}
use Rattle.std.specs.Prelude.{nat_lt}
use Rattle.std.proofs.lemmas.Bool.{ltb-true, ltb-false}
use Rattle.std.proofs.lemmas.Grind.{pow_more}
use Rattle.std.proofs.lemmas.Nat.{pow_pos}
use native.Mathlib.Omega.{arith}
use Rattle.section_core.specs.Words.{waits_for}
use Rattle.marked_word.specs.Head.{is_locked, first_of}
use Rattle.marked_word.specs.Link.{node_of}
use Rattle.table_shape.specs.declared.shape.Shape.{Shape}
use Rattle.table_shape.specs.declared.place.Place.TheVariants as place
use Rattle.table_shape.specs.Place.{IsInside}
use Rattle.table_shape.specs.Shape.{IsSound}
use Rattle.atomic_step.specs.declared.step.Step.TheVariants as step
use Rattle.atomic_step.specs.SoundStep.{CanBeFound, IsLevel, IsNode, IsSoundStep}
use Rattle.atomic_step.proofs.Choices.{where_it_is, not_equal}
use Rattle.call_machine.specs.declared.grace.Grace.{Grace}
use Rattle.call_machine.specs.declared.grace.GraceStage.TheVariants.{RaiseCounter, LoadSection}
use Rattle.call_machine.specs.declared.grace.Gracing.{Gracing}
use Rattle.call_machine.specs.declared.grace.Gracing.TheVariants as gracing
use Rattle.call_machine.specs.declared.lock.LockStage.TheVariants.{LoadHead, LockHead}
use Rattle.call_machine.specs.declared.lock.Locking.TheVariants as locking
use Rattle.call_machine.specs.declared.resize.AfterGrace.{AfterGrace}
use Rattle.call_machine.specs.declared.resize.AfterGrace.TheVariants as after
use Rattle.call_machine.specs.declared.resize.Chain.{Chain}
use Rattle.call_machine.specs.declared.resize.Chains.{Chains}
use Rattle.call_machine.specs.declared.resize.Direction.{Direction}
use Rattle.call_machine.specs.declared.resize.Direction.TheVariants.{Grow, Shrink}
use Rattle.call_machine.specs.declared.resize.JoinStage.TheVariants as join
use Rattle.call_machine.specs.declared.resize.ResizeAlong.{ResizeAlong}
use Rattle.call_machine.specs.declared.resize.ResizeStage.{ResizeStage}
use Rattle.call_machine.specs.declared.resize.ResizeStage.TheVariants.{PutNewLevel, Lock, PutHead, RedirectHead, Unzip, Join, UnlockHead, StoreLevel, ClearNewLevel, GiveResizeLock}
use Rattle.call_machine.specs.declared.resize.ResizeStage.TheVariants as stage
use Rattle.call_machine.specs.declared.resize.Side.{Side}
use Rattle.call_machine.specs.declared.resize.Side.TheVariants.{Even, Odd}
use Rattle.call_machine.specs.declared.resize.UnzipStage.TheVariants as unzip
use Rattle.call_machine.specs.Grace.{scanned}
use Rattle.call_machine.specs.Pass.{first_behind}
use Rattle.call_machine.specs.Resize.{end_level, half, bucket_at, other, chain_at, chains_from, joined_first, new_first, begun_resize, Went, goes, has_locked, locks_on, joins_from, after_put, unzips_on, redirected, next_pair, unlocked, edge_from, moved, joins_at, after_grace, graces_on, resize_row}
use Rattle.call_machine.specs.SoundResize.{LeadsToLevel, IsSoundChain, IsSoundResizing, IsGrow, IsShrink, HasNewSide, HasOldSide, IsAtLast, IsSoundAfter, IsSoundResize}
use Rattle.call_machine.proofs.Nodes.{node_below}

abbrev Lands : Shape → Direction → Went → Type 0
Lands shape d went = IsSoundResize shape d went.0 went.1

pub level_small : (shape : Shape) (d : Direction) (level : ℕ) → IsSound shape → LeadsToLevel shape d level → level ≤ 20
level_small shape Grow level sound leads = let most = sound.levels.1 in omega (arith, most, leads)
level_small shape Shrink level sound leads = let most = sound.levels.1 in omega (arith, most, leads)

twice : (n : ℕ) → 0 < n → 2 ^ n ≡ 2 ^ (n - 1) * 2
twice n some = let same : n ≡ n - 1 + 1 = omega (arith, some) in ap (λ k. 2 ^ k) same ∙ pow_more 2 (n - 1)

-- the level at the end, and the heads of the two rows
end_inside : (shape : Shape) (d : Direction) (level : ℕ) → LeadsToLevel shape d level → IsLevel shape (end_level d level)
end_inside shape Grow level leads = (omega (arith, leads), omega (arith, leads))
end_inside shape Shrink level leads = (omega (arith, leads), omega (arith, leads))

old_inside : (shape : Shape) (d : Direction) (w : ResizeAlong) (side : Side) → IsSoundResizing shape d w → HasOldSide d side → IsInside shape (place.Head w.level (bucket_at d w side))
old_inside shape Grow w Even along has = let leads = along.level in let below = along.bucket in (leads.0, omega (arith, leads), below)
old_inside shape Grow w Odd along has = absurd has
old_inside shape Shrink w Even along has = let leads = along.level in let below = along.bucket in let wide = twice w.level (omega (arith, leads)) in (omega (arith, leads), leads.1, omega (arith, below, wide))
old_inside shape Shrink w Odd along has = let leads = along.level in let below = along.bucket in let wide = twice w.level (omega (arith, leads)) in (omega (arith, leads), leads.1, omega (arith, below, wide))

new_inside : (shape : Shape) (d : Direction) (w : ResizeAlong) (side : Side) → IsSoundResizing shape d w → HasNewSide d side → IsInside shape (place.Head (end_level d w.level) (bucket_at d w side))
new_inside shape Grow w Even along has = let leads = along.level in let below = along.bucket in let wide = pow_more 2 w.level in (omega (arith, leads), omega (arith, leads), omega (arith, below, wide))
new_inside shape Grow w Odd along has = let leads = along.level in let below = along.bucket in let wide = pow_more 2 w.level in (omega (arith, leads), omega (arith, leads), omega (arith, below, wide))
new_inside shape Shrink w Even along has = let leads = along.level in let below = along.bucket in (omega (arith, leads), omega (arith, leads), below)
new_inside shape Shrink w Odd along has = absurd has

-- nodes of the table
chain_inside : (shape : Shape) (d : Direction) (w : ResizeAlong) (side : Side) → IsSoundResizing shape d w → IsSoundChain shape (chain_at w.chains side)
chain_inside shape d w Even along = along.even
chain_inside shape d w Odd along = along.odd

joined_inside : (shape : Shape) (even odd : Option ℕ) → IsNode shape even → IsNode shape odd → IsNode shape (joined_first even odd)
joined_inside shape None odd e o = o
joined_inside shape (Some x) odd e o = e

first_inside : (shape : Shape) (d : Direction) (w : ResizeAlong) (side : Side) → IsSoundResizing shape d w → IsNode shape (new_first d w.chains side)
first_inside shape Grow w side along = (chain_inside shape Grow w side along).0
first_inside shape Shrink w side along = joined_inside shape w.chains.even.first w.chains.odd.first along.even.0 along.odd.0

-- what goes along, with one part changed
with_chains : (shape : Shape) (d : Direction) (w : ResizeAlong) (chains : Chains) (rest : Option ℕ) → IsSoundResizing shape d w → IsSoundChain shape chains.even → IsSoundChain shape chains.odd → IsNode shape rest → IsSoundResizing shape d (record w { chains = chains; rest = rest })
with_chains shape d w chains rest along even odd node = record { level = along.level; bucket = along.bucket; even = even; odd = odd; rest = node }

with_pair : (shape : Shape) (d : Direction) (w : ResizeAlong) (bucket passed : ℕ) → IsSoundResizing shape d w → bucket < half d w.level → IsSoundResizing shape d (record w { bucket = bucket; passed = passed })
with_pair shape d w bucket passed along below = record { level = along.level; bucket = below; even = along.even; odd = along.odd; rest = along.rest }

with_grace : (shape : Shape) (d : Direction) (w : ResizeAlong) (g : Grace) (graces : ℕ) → IsSoundResizing shape d w → IsSoundResizing shape d (record w { grace = g; graces = graces })
with_grace shape d w g graces along = record { level = along.level; bucket = along.bucket; even = along.even; odd = along.odd; rest = along.rest }

-- the stages to which others lead
locks : (shape : Shape) (d : Direction) (w : ResizeAlong) (side : Side) → IsSoundResizing shape d w → HasOldSide d side → IsSoundResize shape d w (Lock side LoadHead)
locks shape d w side along has = record { along = along; at = has; step = λ seat. (old_inside shape d w side along has, tt, tt, tt) }

puts : (shape : Shape) (d : Direction) (w : ResizeAlong) (side : Side) → IsSoundResizing shape d w → HasNewSide d side → IsSoundResize shape d w (PutHead side)
puts shape d w side along has = record { along = along; at = has; step = λ seat. (new_inside shape d w side along has, tt, first_inside shape d w side along, tt) }

redirects : (shape : Shape) (d : Direction) (w : ResizeAlong) (side : Side) → IsSoundResizing shape d w → HasOldSide d side → IsSoundResize shape d w (RedirectHead side)
redirects shape d w side along has = record { along = along; at = has; step = λ seat. (old_inside shape d w side along has, tt, (chain_inside shape d w side along).0, tt) }

unlocks : (shape : Shape) (d : Direction) (w : ResizeAlong) (side : Side) → IsSoundResizing shape d w → HasNewSide d side → IsSoundResize shape d w (UnlockHead side)
unlocks shape d w side along has = record { along = along; at = has; step = λ seat. (new_inside shape d w side along has, tt, first_inside shape d w side along, tt) }

raises_on : (shape : Shape) (d : Direction) (w : ResizeAlong) (then_do : AfterGrace) → IsSoundResizing shape d w → IsSoundAfter d w then_do → IsSoundResize shape d w (stage.Grace then_do RaiseCounter)
raises_on shape d w then_do along at = record { along = along; at = at; step = λ seat. (tt, tt, tt, tt) }

unzips : (shape : Shape) (d : Direction) (w : ResizeAlong) (next : Option ℕ) → IsSoundResizing shape d w → IsGrow d → IsNode shape next → IsSoundResize shape d w (unzips_on next)
unzips shape d w None along grows node = unlocks shape d w Even along tt
unzips shape d w (Some x) along grows node = record { along = along; at = (grows, tt); step = λ seat. (node, tt, tt, tt) }

joins : (shape : Shape) (d : Direction) (w : ResizeAlong) (next : Option ℕ) → IsSoundResizing shape d w → IsShrink d → IsNode shape next → IsSoundResize shape d w (joins_from next)
joins shape d w None along shrinks node = redirects shape d w Even along tt
joins shape d w (Some x) along shrinks node = record { along = along; at = shrinks; step = λ seat. (node, tt, tt, tt) }

joins_on : (shape : Shape) (d : Direction) (w : ResizeAlong) (x : ℕ) (next : Option ℕ) → IsSoundResizing shape d w → IsShrink d → x < shape.slots → IsNode shape next → IsSoundResize shape d w (joins_at x next)
joins_on shape d w x None along shrinks below node = record { along = along; at = shrinks; step = λ seat. (below, tt, along.odd.0, tt) }
joins_on shape d w x (Some y) along shrinks below node = record { along = along; at = shrinks; step = λ seat. (node, tt, tt, tt) }

-- what comes of each step
locked : (shape : Shape) (d : Direction) (w : ResizeAlong) (side : Side) (first : Option ℕ) → IsSoundResizing shape d w → IsNode shape first → Lands shape d (has_locked d w side first)
locked shape Grow w side first along node = puts shape Grow _ Even (with_chains shape Grow w (chains_from first first) w.rest along (node, tt) (node, tt) along.rest) tt
locked shape Shrink w Even first along node = locks shape Shrink _ Odd (with_chains shape Shrink w (chains_from first None) w.rest along (node, tt) (tt, tt) along.rest) tt
locked shape Shrink w Odd first along node = puts shape Shrink _ Even (with_chains shape Shrink w (chains_from w.chains.even.first first) w.rest along (along.even.0, tt) (node, tt) along.rest) tt

has_put : (shape : Shape) (d : Direction) (w : ResizeAlong) (side : Side) → IsSoundResizing shape d w → IsSoundResize shape d w (after_put d w.chains side)
has_put shape Grow w Even along = puts shape Grow w Odd along tt
has_put shape Grow w Odd along = redirects shape Grow w Even along tt
has_put shape Shrink w side along = joins shape Shrink w w.chains.even.first along tt along.even.0

has_redirected : (shape : Shape) (d : Direction) (w : ResizeAlong) (side : Side) → IsSoundResizing shape d w → Lands shape d (redirected d w side)
has_redirected shape Grow w side along = unzips shape Grow w w.chains.even.first along tt along.even.0
has_redirected shape Shrink w Even along = redirects shape Shrink w Odd along tt
has_redirected shape Shrink w Odd along = raises_on shape Shrink w after.UnlockHead along tt

pub on_pairs : (P : Went → Type 0) (shape : Shape) (d : Direction) (w : ResizeAlong) → IsSoundResizing shape d w
    → (w.bucket + 1 < half d w.level → P (goes (record w { bucket = w.bucket + 1; passed = 0 }) (Lock Even LoadHead))) → (IsAtLast d w → P (goes w StoreLevel)) → P (next_pair d w)
on_pairs P shape d w along more last = where_it_is P (nat_lt (w.bucket + 1) (half d w.level)) _ _
    (λ is. more (ltb-true (w.bucket + 1) (half d w.level) is))
    (λ is. let below = along.bucket in let most = ltb-false (w.bucket + 1) (half d w.level) is in last (omega (arith, below, most)))

pub on_sections : (P : Grace × Gracing → Type 0) (seats : ℕ) (g : Grace) (word : ℕ) → P (g, gracing.Waits) → P (g, gracing.Over) → (¬ (g.next + 1 ≡ seats) → P (record g { next = g.next + 1 }, gracing.Goes)) → P (scanned seats g word)
on_sections P seats g word waits over more = where_it_is P (waits_for g.raised word) _ _ (λ is. waits)
    (λ is. where_it_is P (g.next + 1 == seats) _ _ (λ last. over) (λ other. more (not_equal (g.next + 1) seats other)))

pairs : (shape : Shape) (d : Direction) (w : ResizeAlong) → IsSoundResizing shape d w → Lands shape d (next_pair d w)
pairs shape d w along = on_pairs (Lands shape d) shape d w along
    (λ more. locks shape d _ Even (with_pair shape d w (w.bucket + 1) 0 along more) tt)
    (λ last. record { along = along; at = last; step = λ seat. (tt, tt, end_inside shape d w.level along.level, tt) })

has_unlocked : (shape : Shape) (d : Direction) (w : ResizeAlong) (side : Side) → IsSoundResizing shape d w → Lands shape d (unlocked d w side)
has_unlocked shape Grow w Even along = unlocks shape Grow w Odd along tt
has_unlocked shape Grow w Odd along = pairs shape Grow w along
has_unlocked shape Shrink w side along = pairs shape Shrink w along

edge_inside : (shape : Shape) (row_of bucket : ℕ) (last next : Option ℕ) (seat : ℕ) → IsInside shape (place.Head row_of bucket) → IsNode shape last → IsNode shape next → IsSoundStep shape seat (step.MoveEdge (edge_from row_of bucket last) next)
edge_inside shape row_of bucket None next seat head last node = (head, tt, node, tt)
edge_inside shape row_of bucket (Some x) next seat head last node = (last, tt, node, tt)

grows_new : (d : Direction) (side : Side) → IsGrow d → HasNewSide d side
grows_new d Even grows = tt
grows_new d Odd grows = grows

leads : (shape : Shape) (chain : Chain) (last next : Option ℕ) → IsNode shape chain.first → IsNode shape next → IsNode shape (first_behind last chain.first next)
leads shape chain None next first node = node
leads shape chain (Some x) next first node = first

moves : (shape : Shape) (d : Direction) (w : ResizeAlong) (x : ℕ) (side : Side) (next : Option ℕ) → IsSoundResizing shape d w → x < shape.slots → IsNode shape next → IsSoundResizing shape d (record w { chains = moved w.chains x side next; rest = next })
moves shape d w x Even next along below node = with_chains shape d w (moved w.chains x Even next) next along (along.even.0, below) (leads shape w.chains.odd w.chains.odd.last next along.odd.0 node, along.odd.1) node
moves shape d w x Odd next along below node = with_chains shape d w (moved w.chains x Odd next) next along (leads shape w.chains.even w.chains.even.last next along.even.0 node, along.even.1) (along.odd.0, below) node

graced : (shape : Shape) (d : Direction) (w : ResizeAlong) (then_do : AfterGrace) → IsSoundResizing shape d w → IsSoundAfter d w then_do → IsSoundResize shape d w (after_grace w then_do)
graced shape d w after.Unzip along at = unzips shape d w w.rest along at along.rest
graced shape d w after.UnlockHead along at = unlocks shape d w Even along tt
graced shape d w after.ClearNewLevel along at = record { along = along; at = at; step = λ seat. (tt, tt, tt, tt) }

pub got_soundly : (shape : Shape) (d : Direction) (w : ResizeAlong) (s : ResizeStage) (word : ℕ) → IsSound shape → IsSoundResize shape d w s → CanBeFound shape (resize_row shape d w s).step word → Lands shape d ((resize_row shape d w s).next word)
got_soundly shape d w PutNewLevel word table sound fits = locks shape d w Even sound.along tt
got_soundly shape d w (Lock side LoadHead) word table sound fits = where_it_is (λ came. Lands shape d (locks_on d w side came)) (is_locked word) locking.Waits (locking.Goes (LockHead word))
    (λ held. locks shape d w side sound.along sound.at)
    (λ free. record { along = sound.along; at = sound.at; step = λ seat. (old_inside shape d w side sound.along sound.at, free, fits.0, tt) })
got_soundly shape d w (Lock side (LockHead head)) word table sound fits = where_it_is (λ came. Lands shape d (locks_on d w side came)) (word == head) (locking.Locked (first_of word)) locking.Waits
    (λ won. locked shape d w side (first_of word) sound.along (node_below shape (word / 4) fits.0))
    (λ lost. locks shape d w side sound.along sound.at)
got_soundly shape d w (PutHead side) word table sound fits = has_put shape d w side sound.along
got_soundly shape d w (RedirectHead side) word table sound fits = has_redirected shape d w side sound.along
got_soundly shape d w (Unzip (unzip.LoadMeta x)) word table sound fits = record { along = with_pair shape d w w.bucket _ sound.along sound.along.bucket; at = (sound.at.0, tt); step = λ seat. ((sound.step seat).0, tt, tt, tt) }
got_soundly shape d w (Unzip (unzip.LoadLink x side)) word table sound fits =
    let chain = chain_inside shape d w (other side) sound.along in
    record { along = sound.along; at = (sound.at.0, (sound.step 0).0); step = λ seat. edge_inside shape _ _ (chain_at w.chains (other side)).last (node_of word) seat (new_inside shape d w (other side) sound.along (grows_new d (other side) sound.at.0)) chain.1 (node_below shape word fits.0) }
got_soundly shape d w (Unzip (unzip.MoveEdge x side next)) word table sound fits = raises_on shape d _ after.Unzip (moves shape d w x side next sound.along sound.at.1 (sound.step 0).2) sound.at.0
got_soundly shape d w (Join (join.LoadLink x)) word table sound fits = joins_on shape d _ x (node_of word) (with_pair shape d w w.bucket _ sound.along sound.along.bucket) sound.at (sound.step 0).0 (node_below shape word fits.0)
got_soundly shape d w (Join (join.JoinChains x)) word table sound fits = redirects shape d w Even sound.along tt
got_soundly shape d w (UnlockHead side) word table sound fits = has_unlocked shape d w side sound.along
got_soundly shape d w (stage.Grace then_do RaiseCounter) word table sound fits = record { along = with_grace shape d w _ _ sound.along; at = sound.at; step = λ seat. (let some = table.seats.0 in omega (arith, some), tt, tt, tt) }
got_soundly shape d w (stage.Grace then_do LoadSection) word table sound fits =
    on_sections (λ (came : Grace × Gracing). Lands shape d (graces_on (record w { grace = came.0; graces = w.graces }) then_do came.1)) shape.seats w.grace word
    sound (graced shape d w then_do sound.along sound.at)
    (λ more. let below = (sound.step 0).0 in record { along = with_grace shape d w _ _ sound.along; at = sound.at; step = λ seat. (omega (arith, below, more), tt, tt, tt) })
got_soundly shape d w StoreLevel word table sound fits = raises_on shape d w after.ClearNewLevel sound.along sound.at
got_soundly shape d w ClearNewLevel word table sound fits = record { along = sound.along; at = sound.at; step = λ seat. (tt, tt, tt, tt) }
got_soundly shape d w GiveResizeLock word table sound fits = sound

-- a grow or a shrink begins sound
first_pair : (d : Direction) (level : ℕ) → 0 < half d level
first_pair Grow level = pow_pos level
first_pair Shrink level = pow_pos (level - 1)

pub begins_soundly : (shape : Shape) (d : Direction) (level : ℕ) → LeadsToLevel shape d level → IsSoundResize shape d (begun_resize level) PutNewLevel
begins_soundly shape d level leads = record {
  along = record { level = leads; bucket = first_pair d level; even = (tt, tt); odd = (tt, tt); rest = tt };
  at = refl;
  step = λ seat. (tt, tt, end_inside shape d level leads, tt);
}
