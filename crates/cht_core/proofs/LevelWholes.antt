-- Stages at which no head is redirected, and that no open section is older than the last Level.
use Rattle.std.proofs.Common.{◌≡◌, ℕ, ◌+◌, ◌^◌, ◌<◌, ◌≤◌, inl, inr, arith}
use Rattle.cht_core.specs.Flow.{Flow, IsUsed, ComesTo}
use Rattle.cht_core.specs.KnowsResize.{AreNew}
use Rattle.cht_core.specs.Stage.{Stage, Quiet, Growing, Splitting, Shrinking, Joining, Turning, Closing, IsGone, IsOpen, IsPinned, IsOnTwo, IsSent, IsWhole}
use Rattle.cht_core.specs.TableState.{IsClear}
use Rattle.intern_log.specs.Now.{Now}
use Rattle.cht_core.proofs.Stages.{sent_not}
use Rattle.cht_core.proofs.TwoChains.{whole_left, whole_unsent}

-- no head is redirected, and callers come to none of the next row
pub whole_gone : (st : Stage) (b : ℕ) → IsWhole st → IsGone st b → ⊥
whole_gone Quiet b whole gone = gone
whole_gone (Growing d) b whole gone = omega (arith, whole, gone)
whole_gone (Splitting a) b whole gone = whole
whole_gone (Shrinking k d) b whole gone = elim gone [ inl x ↦ omega (arith, whole, x) | inr x ↦ (let low : 2 ^ k ≤ b = x.0 in let high : b < d + 2 ^ k = x.1 in omega (arith, whole, low, high)) ]
whole_gone (Joining k a) b whole gone = whole
whole_gone (Turning k a) b whole gone = whole
whole_gone Closing b whole gone = gone

pub whole_open : (st : Stage) (l b : ℕ) → IsWhole st → IsOpen st l b → ⊥
whole_open Quiet l b whole to = to
whole_open (Growing d) l b whole to = elim to [ inl x ↦ omega (arith, whole, x) | inr x ↦ (let low : 2 ^ l ≤ b = x.0 in let high : b < d + 2 ^ l = x.1 in omega (arith, whole, low, high)) ]
whole_open (Splitting a) l b whole to = whole
whole_open (Shrinking k d) l b whole to = omega (arith, whole, to)
whole_open (Joining k a) l b whole to = whole
whole_open (Turning k a) l b whole to = whole
whole_open Closing l b whole to = to

-- no text is on two chains, and no chain leads on to another
pub whole_one : (st : Stage) (l hash : ℕ) → IsWhole st → IsOnTwo st l hash → ⊥
whole_one Quiet l hash whole two = two
whole_one (Growing d) l hash whole two = two
whole_one (Splitting a) l hash whole two = whole
whole_one (Shrinking k d) l hash whole two = two
whole_one (Joining k a) l hash whole two = whole
whole_one (Turning k a) l hash whole two = whole
whole_one Closing l hash whole two = two

pub whole_pinned : (st : Stage) (l row b : ℕ) → IsWhole st → IsPinned st l row b → ⊥
whole_pinned Quiet l row b whole pinned = pinned
whole_pinned (Growing d) l row b whole pinned = pinned
whole_pinned (Splitting a) l row b whole pinned = whole
whole_pinned (Shrinking k d) l row b whole pinned = pinned
whole_pinned (Joining k a) l row b whole pinned = whole
whole_pinned (Turning k a) l row b whole pinned = whole
whole_pinned Closing l row b whole pinned = pinned

pub whole_sent : (st : Stage) (l hash : ℕ) → IsWhole st → IsSent st l hash → ⊥
whole_sent st l hash whole sent = sent_not st l hash sent (whole_unsent st l hash whole)

-- callers come to each head of the level's row, and to no other one
pub whole_used : (n : Now) (f : Flow) (row b : ℕ) → IsWhole f.stage → row ≡ n.level → b < 2 ^ row → IsUsed n f row b
whole_used n f row b whole here below = inl (here, whole_left f.stage b whole, below)

pub used_whole : (n : Now) (f : Flow) (row b : ℕ) → IsWhole f.stage → IsUsed n f row b → (row ≡ n.level) × (b < 2 ^ row)
used_whole n f row b whole used = elim used [ inl a ↦ (a.0, a.2) | inr a ↦ absurd (whole_open f.stage n.level b whole a.1) ]

pub comes_whole : (n : Now) (f : Flow) (hash row : ℕ) → IsWhole f.stage → ComesTo n f hash row → row ≡ n.level
comes_whole n f hash row whole to = elim to [ inl a ↦ a.0 | inr a ↦ absurd (whole_sent f.stage n.level hash whole a.1) ]

-- where each section was opened after the last Level, any stage may be
pub new_clear : (st : Stage) (n : Now) → AreNew n → IsClear st n
new_clear Quiet n new = new
new_clear (Growing d) n new = new
new_clear (Splitting a) n new = new
new_clear (Shrinking k d) n new = new
new_clear (Joining k a) n new = new
new_clear (Turning k a) n new = new
new_clear Closing n new = tt
