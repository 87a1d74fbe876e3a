-- What the full passes of a poll unlinked, and that its seat has the resize lock, as the window grows.
use Rattle.std.proofs.Common.{◌≡◌, ◌≢◌, ℕ, ◌+◌, ◌<◌, ◌≤◌, ◌⊎◌, ◌&&◌, Bool, true, false, List, [], ◌∷◌, ◌++◌, Option, Some, refl, sym, ap, subst, ◌∙◌, inl, inr, arith}
use Rattle.std.specs.Prelude.{nat_eq, nat_lt}
use Rattle.std.specs.List.{filter}
use Rattle.std.proofs.lemmas.Bool.{eq-eqb, ne_eqb, lt-ltb}
use Rattle.std.proofs.lemmas.List.Elements.{filter-append}
use Rattle.intern_log.specs.declared.event.Event.{Event}
use Rattle.intern_log.specs.declared.event.What.{What}
use Rattle.intern_log.specs.declared.event.What.TheVariants as what
use Rattle.intern_log.specs.Now.{Now, Phase, Vacant, Claimed, Linked, Unlinked, now_after_event, now_after, opening}
use Rattle.intern_log.specs.SlotBuckets.{bucket_now, phase_bucket, slot_bucket, IsUnlinkOn}
use Rattle.intern_log.proofs.LawfulLaws.{now_after-append}
use Rattle.call_machine.specs.declared.clean.CleanAlong.{CleanAlong}
use Rattle.call_machine.specs.declared.clean.CleanStage.{CleanStage}
use Rattle.call_machine.specs.declared.clean.CleanStage.TheVariants as clean
use Rattle.call_machine.specs.CallClaims.{one_if}
use Rattle.cht_core.specs.declared.table.Table.{Table}
use Rattle.cht_core.specs.Causes.{now_in, KeepsResizeLock, own_unlinks, HasUnlinked}
use Rattle.cht_core.specs.Invariant.{events_of}
use Rattle.cht_core.specs.Past.{by}
use Rattle.cht_core.specs.Unlinks.{is_in_bucket, is_unlink_on, unlinks_by, is_given}
use Rattle.cht_core.specs.Windows.{whats_by}
use Rattle.cht_core.proofs.Windows.{whats_of, whats_by_waits, whats_by_step}

in_bucket_by : (n : Now) (row bucket : ℕ) (phase : Phase) → phase_bucket n row phase ≡ Some bucket → is_in_bucket n.seed row bucket phase ≡ true
in_bucket_by n row bucket (Linked text h born) is = let same : bucket_now n row text ≡ bucket = cc in eq-eqb (bucket_now n row text) bucket same
in_bucket_by n row bucket Vacant is = absurd (cc)
in_bucket_by n row bucket (Claimed seat) is = absurd (cc)
in_bucket_by n row bucket (Unlinked seat place) is = absurd (cc)

outside_by : (n : Now) (row bucket : ℕ) (phase : Phase) → ¬ (phase_bucket n row phase ≡ Some bucket) → is_in_bucket n.seed row bucket phase ≡ false
outside_by n row bucket (Linked text h born) none = ne_eqb (bucket_now n row text) bucket (λ same. none (ap (λ b. Some b) same))
outside_by n row bucket Vacant none = refl
outside_by n row bucket (Claimed seat) none = refl
outside_by n row bucket (Unlinked seat place) none = refl

and_no : (b : Bool) → (b && false) ≡ false
and_no true = refl
and_no false = refl

module _ (t : Table) (i : ℕ) where
  -- any other event is not counted
  not_counted : (row bucket : ℕ) (n : Now) (w : What) → ¬ (IsUnlinkOn n row bucket w) → is_unlink_on t n row bucket w ≡ false
  not_counted row bucket n (what.Unlink s) none =
      ap (λ b. nat_lt s t.shape.slots && b) (outside_by n row bucket (n.slot s) (λ is. none (s, refl, is))) ∙ and_no (nat_lt s t.shape.slots)
  not_counted row bucket n _ none = refl

  counts_nothing : (row bucket : ℕ) (n : Now) (e : Event) → (e.seat ≢ i) ⊎ (¬ (IsUnlinkOn n row bucket e.what)) → one_if (nat_eq e.seat i && is_unlink_on t n row bucket e.what) ≡ 0
  counts_nothing row bucket n e (inl other) = ap (λ b. one_if (b && is_unlink_on t n row bucket e.what)) (ne_eqb e.seat i other)
  counts_nothing row bucket n e (inr none) = ap (λ b. one_if (nat_eq e.seat i && b)) (not_counted row bucket n e.what none) ∙ ap one_if (and_no (nat_eq e.seat i))

  unlinks_in_pieces : (row bucket : ℕ) (n : Now) (xs ys : List Event) →
      unlinks_by t i row bucket n (xs ++ ys) ≡ unlinks_by t i row bucket n xs + unlinks_by t i row bucket (now_after n xs) ys
  unlinks_in_pieces row bucket n [] ys = omega arith
  unlinks_in_pieces row bucket n (e ∷ xs) ys =
      let rest = unlinks_in_pieces row bucket (now_after_event n e) xs ys in
      omega (arith, rest)

  module _ (seen window : List Event) where
    -- more events take nothing away
    pub unlinks_on : (row bucket : ℕ) (more : List Event) → own_unlinks t i row bucket seen window ≤ own_unlinks t i row bucket seen (window ++ more)
    unlinks_on row bucket more = let both = unlinks_in_pieces row bucket (now_in t seen) window more in omega (arith, both)

    -- an own Unlink on the bucket is one more
    pub unlink_counts : (row bucket s : ℕ) → slot_bucket (now_in t (seen ++ window)) row s ≡ Some bucket → s < t.shape.slots →
        own_unlinks t i row bucket seen (window ++ events_of i (Some (what.Unlink s))) ≡ own_unlinks t i row bucket seen window + 1
    unlink_counts row bucket s at inside =
        let both = unlinks_in_pieces row bucket (now_in t seen) window (by i (what.Unlink s) ∷ []) in
        let here : now_in t (seen ++ window) ≡ now_after (now_in t seen) window = now_after-append (opening t.shape.min_level) seen window in
        let is = in_bucket_by (now_in t (seen ++ window)) row bucket ((now_in t (seen ++ window)).slot s) at in
        let counted : is_unlink_on t (now_in t (seen ++ window)) row bucket (what.Unlink s) ≡ true = ap (λ b. b && is_in_bucket (now_in t (seen ++ window)).seed row bucket ((now_in t (seen ++ window)).slot s))
        (lt-ltb s t.shape.slots inside) ∙ is in
        let own : one_if (nat_eq i i && is_unlink_on t (now_after (now_in t seen) window) row bucket (what.Unlink s)) ≡ 1 =
        ap (λ b. one_if (b && is_unlink_on t (now_after (now_in t seen) window) row bucket (what.Unlink s))) (eq-eqb i i refl)
        ∙ subst (λ n. one_if (is_unlink_on t n row bucket (what.Unlink s)) ≡ 1) here (ap one_if counted) in
        omega (arith, both, own)

    -- and nothing else is
    pub nothing_counts : (row bucket : ℕ) (e : Event) → (e.seat ≢ i) ⊎ (¬ (IsUnlinkOn (now_in t (seen ++ window)) row bucket e.what)) →
        own_unlinks t i row bucket seen (window ++ e ∷ []) ≡ own_unlinks t i row bucket seen window
    nothing_counts row bucket e other =
        let both = unlinks_in_pieces row bucket (now_in t seen) window (e ∷ []) in
        let here : now_in t (seen ++ window) ≡ now_after (now_in t seen) window = now_after-append (opening t.shape.min_level) seen window in
        let none : one_if (nat_eq e.seat i && is_unlink_on t (now_after (now_in t seen) window) row bucket e.what) ≡ 0 =
        subst (λ n. one_if (nat_eq e.seat i && is_unlink_on t n row bucket e.what) ≡ 0) here (counts_nothing row bucket (now_in t (seen ++ window)) e other) in
        omega (arith, both, none)

    -- what the passes unlinked they still did
    pub unlinked_on : (w : CleanAlong) (s : CleanStage) (more : List Event) → HasUnlinked t i seen window w s → HasUnlinked t i seen (window ++ more) w s
    unlinked_on w clean.LoadLevel more h = h
    unlinked_on w (clean.Lock s) more h = let less = unlinks_on w.cleaning.row w.cleaning.bucket more in omega (arith, h, less)
    unlinked_on w (clean.Pass s) more h = let less = unlinks_on w.cleaning.row w.cleaning.bucket more in omega (arith, h, less)
    unlinked_on w clean.UnlockHead more h = let less = unlinks_on w.cleaning.row w.cleaning.bucket more in omega (arith, h, less)
    unlinked_on w (clean.Grace which s) more h = let less = unlinks_on w.cleaning.row w.cleaning.bucket more in omega (arith, h, less)
    unlinked_on w (clean.Free which s) more h = let less = unlinks_on w.cleaning.row w.cleaning.bucket more in omega (arith, h, less)
    unlinked_on w clean.GiveResizeLock more h = let less = unlinks_on w.cleaning.row w.cleaning.bucket more in omega (arith, h, less)

    -- others' events do not give the lock back, and nor does an own one that is no ResizeGiven
    pub keeps_waits : (more : List Event) → whats_by i more ≡ [] → KeepsResizeLock t i seen window → KeepsResizeLock t i seen (window ++ more)
    keeps_waits more none h = (h.0, subst (λ l. filter is_given l ≡ []) (sym (whats_by_waits i window more none)) h.1)

    pub keeps_steps : (e : Option What) → filter is_given (whats_of e) ≡ [] → KeepsResizeLock t i seen window → KeepsResizeLock t i seen (window ++ events_of i e)
    keeps_steps e none h = (
      h.0,
      subst (λ l. filter is_given l ≡ []) (sym (whats_by_step i window e))
          (filter-append is_given (whats_by i window) (whats_of e) ∙ ap (λ l. l ++ filter is_given (whats_of e)) h.1 ∙ none),
    )
