-- A slot is unlinked by an Unlink alone, at the place of that event.
use Rattle.std.proofs.Common.{◌≡◌, ℕ, ◌<◌, ◌≤◌, ◌⊎◌, inl, inr, List, [], ◌∷◌, length, take, drop, Option, Some, None, sym, ap, subst, ◌∙◌, arith}
use Rattle.std.proofs.lemmas.List.{take-append-drop, length-take-le}
use Rattle.intern_log.specs.declared.event.Event.{Event}
use Rattle.intern_log.specs.declared.event.What.{What}
use Rattle.intern_log.specs.declared.event.What.TheVariants as what
use Rattle.intern_log.specs.Now.{Now, Vacant, Claimed, Linked, Unlinked, changed_by, now_after, now_after_event, now_of, opening}
use Rattle.intern_log.proofs.LawfulLaws.{now_after-append}
use Rattle.intern_log.proofs.OneMore.{place_is}
use Rattle.cht_core.specs.Past.{Past, told}
use Rattle.cht_core.specs.Search.{IsLinked}
use Rattle.cht_core.proofs.OwesKept.{changed_at}

-- an unlinked slot has one place
same_cut : (i k place at : ℕ) → Unlinked i place ≡ Unlinked k at → at ≡ place
same_cut i k place at is = cc

-- an event that leaves a slot unlinked found it so, or is its Unlink
abbrev pub IsCutBy : Now → What → ℕ → ℕ → ℕ → Type 0
IsCutBy n w s k at = (n.slot s ≡ Unlinked k at) ⊎ ((w ≡ what.Unlink s) × (at ≡ n.place))

pub cut_by : (n : Now) (i : ℕ) (w : What) (s k at : ℕ) → (changed_by n i w).slot s ≡ Unlinked k at → IsCutBy n w s k at
cut_by n i (what.Unlink x) s k at is = elim (changed_at n.slot x (Unlinked i n.place) s (Unlinked k at) is) [
  | inl here ↦ inr (ap what.Unlink (sym here.0), same_cut i k n.place at here.1)
  | inr there ↦ inl there.1
]
cut_by n i (what.Create u h) s k at is = elim (changed_at n.slot h.slot (Linked u h n.place) s (Unlinked k at) is) [ inl here ↦ (let clash = here.1 in absurd (cc)) | inr there ↦ inl there.1 ]
cut_by n i (what.Claim x) s k at is = elim (changed_at n.slot x (Claimed i) s (Unlinked k at) is) [ inl here ↦ (let clash = here.1 in absurd (cc)) | inr there ↦ inl there.1 ]
cut_by n i (what.Free x) s k at is = elim (changed_at n.slot x Vacant s (Unlinked k at) is) [ inl here ↦ (let clash = here.1 in absurd (cc)) | inr there ↦ inl there.1 ]
cut_by n i _ s k at is = inl is

-- the same of what a step tells
pub cut_told : (p : Past) (i : ℕ) (e : Option What) (s k at : ℕ) → (told p i e).now.slot s ≡ Unlinked k at → (p.now.slot s ≡ Unlinked k at) ⊎ ((e ≡ Some (what.Unlink s)) × (at ≡ p.now.place))
cut_told p i None s k at is = inl is
cut_told p i (Some w) s k at is = elim (cut_by p.now i w s k at is) [ inl was ↦ inl was | inr made ↦ inr (ap Some made.0, made.1) ]

-- a slot that some events leave unlinked was so before them, or was unlinked since
pub cut_since : (n : Now) (log : List Event) (s k at : ℕ) → (now_after n log).slot s ≡ Unlinked k at → (n.slot s ≡ Unlinked k at) ⊎ (n.place ≤ at)
cut_since n [] s k at is = inl is
cut_since n (e ∷ log) s k at is = elim (cut_since (now_after_event n e) log s k at is) [
  | inl was ↦ elim (cut_by n e.seat e.what s k at was) [ inl before ↦ inl before | inr made ↦ inr (omega (arith, made.1)) ]
  | inr since ↦ inr (omega (arith, since))
]

-- each slot was unlinked at a place of its own
pub record AreCutApart (n : Now) : Type 0 where
  pub before : (s k at : ℕ) → n.slot s ≡ Unlinked k at → at < n.place
  pub apart : (s r k j at : ℕ) → n.slot s ≡ Unlinked k at → n.slot r ≡ Unlinked j at → s ≡ r

same_unlink : (s r : ℕ) → what.Unlink s ≡ what.Unlink r → s ≡ r
same_unlink s r is = cc

apart_next : (n : Now) (e : Event) → AreCutApart n → AreCutApart (now_after_event n e)
apart_next n e are = record {
  before = λ s k at is. elim (cut_by n e.seat e.what s k at is) [
    | inl was ↦ (let early : at < n.place = are.before s k at was in omega (arith, early))
    | inr made ↦ omega (arith, made.1)
  ];
  apart = λ s r k j at is also. elim (cut_by n e.seat e.what s k at is) [
    | inl was ↦ elim (cut_by n e.seat e.what r j at also) [
      | inl had ↦ are.apart s r k j at was had
      | inr made ↦ absurd (let early : at < n.place = are.before s k at was in omega (arith, early, made.1))
    ]
    | inr made ↦ elim (cut_by n e.seat e.what r j at also) [
      | inl had ↦ absurd (let early : at < n.place = are.before r j at had in omega (arith, early, made.1))
      | inr again ↦ same_unlink s r (sym made.0 ∙ again.0)
    ]
  ];
}

apart_after : (n : Now) (log : List Event) → AreCutApart n → AreCutApart (now_after n log)
apart_after n [] are = are
apart_after n (e ∷ log) are = apart_after (now_after_event n e) log (apart_next n e are)

pub cut_apart : (min_level : ℕ) (log : List Event) → AreCutApart (now_of min_level log)
cut_apart min_level log = apart_after (opening min_level) log (record { before = λ s k at is. absurd (cc); apart = λ s r k j at is also. absurd (cc) })

-- a slot that was linked at a place of the log, and is unlinked at its end, was unlinked since
pub cut_after_linked : (min_level : ℕ) (log : List Event) (s k at place : ℕ) → place ≤ length log → IsLinked (now_of min_level (take place log)) s →
    (now_of min_level log).slot s ≡ Unlinked k at → place ≤ at
cut_after_linked min_level log s k at place inside linked is =
    let whole : now_of min_level log ≡ now_after (now_of min_level (take place log)) (drop place log) =
    ap (now_of min_level) (sym (take-append-drop place log)) ∙ now_after-append (opening min_level) (take place log) (drop place log) in
    let here : (now_of min_level (take place log)).place ≡ place = place_is min_level (take place log) ∙ length-take-le place log inside in
    elim (cut_since (now_of min_level (take place log)) (drop place log) s k at (subst (λ (n : Now). n.slot s ≡ Unlinked k at) whole is)) [
      | inl was ↦ absurd (let clash : Linked linked.0 linked.1 linked.2 ≡ Unlinked k at = sym linked.3 ∙ was in cc)
      | inr since ↦ omega (arith, here, since)
    ]
