-- What a step of a seat makes of the head of a bucket, and what another seat that loaded it knows of it then.
use Rattle.std.proofs.Common.{◌≡◌, ◌≢◌, ℕ, ◌+◌, ◌/◌, ◌%◌, ◌≤◌, ◌==◌, ◌⊎◌, Bool, true, false, cond, List, [], ◌∷◌, ◌++◌, length, Option, Some, None, refl, sym, ap, subst, ◌∙◌, inl, inr}
use Rattle.std.proofs.Common.{arith, length-append}
use Rattle.std.proofs.Common.{append_assoc}
use Rattle.std.proofs.lemmas.Bool.{eqb-true, eqb-false}
use Rattle.std.proofs.lemmas.Bool.Decides.{nat_tests}
use Rattle.marked_word.specs.Head.{is_locked, is_redirected}
use Rattle.table_shape.specs.declared.place.Place.TheVariants as place
use Rattle.intern_log.specs.declared.event.Event.{Event}
use Rattle.intern_log.specs.declared.event.What.{What}
use Rattle.intern_log.specs.declared.event.What.TheVariants as what
use Rattle.intern_log.specs.Buckets.{bucket_of}
use Rattle.intern_log.specs.CauseEvents.{IsCreateUnlinkOrLockOn}
use Rattle.intern_log.specs.Now.{Now}
use Rattle.atomic_step.specs.declared.step.Edge.TheVariants as edge
use Rattle.atomic_step.specs.declared.step.Step.{Step}
use Rattle.atomic_step.specs.declared.step.Step.TheVariants as step
use Rattle.atomic_step.specs.Event.{event_of}
use Rattle.atomic_step.specs.Step.{access_of, locked_head, plain_head}
use Rattle.call_machine.specs.Resize.{other, chain_at, edge_from}
use Rattle.cht_core.specs.declared.table.Table.{Table}
use Rattle.cht_core.specs.Backs.{Backs}
use Rattle.cht_core.specs.Causes.{now_in}
use Rattle.cht_core.specs.Flow.{Flow}
use Rattle.cht_core.specs.HeadKept.{HeadKept}
use Rattle.cht_core.specs.Invariant.{events_of}
use Rattle.cht_core.specs.KnowsResize.{HasLocked, MayRedirect, MayMove, Over, side_bucket}
use Rattle.cht_core.specs.Memory.{Memory, IsMade, found}
use Rattle.cht_core.specs.Past.{Past, by, past_of}
use Rattle.cht_core.specs.Windows.{AnotherSince, WasSince}
use Rattle.cht_core.proofs.Basics.{place_cases, after_load}
use Rattle.cht_core.proofs.MoveEdges.{side_at}

locked_so : (first : Option ℕ) → is_locked (locked_head first) ≡ true
locked_so None = refl
locked_so (Some s) = grind (arith, nat_tests)

locked_plain : (first : Option ℕ) → is_redirected (locked_head first) ≡ false
locked_plain None = refl
locked_plain (Some s) = grind (arith, nat_tests)

plain_so : (first : Option ℕ) → is_redirected (plain_head first) ≡ false
plain_so None = refl
plain_so (Some s) = grind (arith, nat_tests)

-- the lock leaves the other mark
mark_stays : (head : ℕ) → is_locked head ≡ false → is_redirected (head + 1) ≡ is_redirected head
mark_stays head free = let half : (head + 1) / 2 ≡ head / 2 = halves_so head (eqb-false (head % 2) 1 free) in ap (λ x. x % 2 == 1) half
  where
    halves_so : (x : ℕ) → x % 2 ≢ 1 → (x + 1) / 2 ≡ x / 2
    halves_so x even = omega (arith, even)

one_head : (r b row bucket : ℕ) → place.Head row bucket ≡ place.Head r b → (row ≡ r) × (bucket ≡ b)
one_head r b row bucket is = (cc, cc)

-- a head of the level's row that its bucket's lock is on
abbrev pub IsLockedHead : Now → ℕ → ℕ → Type 0
IsLockedHead n row bucket = (row ≡ n.level) × ((k : ℕ) × (n.lock row bucket ≡ Some k))

-- a head that is redirected is a locked one of the level's row
redirect_has : (m : Memory) (n : Now) (f : Flow) (i row bucket : ℕ) (first : Option ℕ) → MayRedirect m n f i row bucket first → (row ≡ n.level) × HasLocked m n i row bucket first
redirect_has m n f i row bucket first may = elim may [
  | inl split ↦ (split.0, split.1.1)
  | inr pair ↦ elim pair [
    | inl even ↦
        let (k, odd, up, has, joint) = even in
        (up ∙ sym has.0.resizing.at_level, subst (λ (r : ℕ). HasLocked m n i r bucket first) (sym up) has.0.low)
    | inr turned ↦
        let (k, b, even, up, at, has) = turned in
        let (below, high, low, resizing, order) = has in
        (up ∙ sym resizing.at_level, subst (λ (r : ℕ). HasLocked m n i r bucket first) (sym up) (subst (λ (c : ℕ). HasLocked m n i (k + 1) c first) (sym at) high))
  ]
]

-- a head that is moved past a node is a locked one
edge_head : (r b row bucket : ℕ) (last : Option ℕ) → edge.Head r b ≡ edge_from row bucket last → (r ≡ row) × (b ≡ bucket)
edge_head r b row bucket None is = (cc, cc)
edge_head r b row bucket (Some x) is = absurd (cc)

move_has : (m : Memory) (n : Now) (f : Flow) (i r b : ℕ) (next : Option ℕ) → MayMove m n f i (edge.Head r b) next → (first : Option ℕ) × (m (place.Head r b) ≡ locked_head first)
move_has m n f i r b next may =
    let lost = side_at m n f i n.level may.bucket may.chains (Some may.node) Over may.unzipping (other may.side) in
    let at : (r ≡ n.level + 1) × (b ≡ side_bucket n.level may.bucket (other may.side)) =
    edge_head r b (n.level + 1) (side_bucket n.level may.bucket (other may.side)) (chain_at may.chains (other may.side)).last may.edge in
    ((chain_at may.chains (other may.side)).first, ap (λ x. m (place.Head x b)) at.0 ∙ ap (λ x. m (place.Head (n.level + 1) x)) at.1 ∙ lost.locked.1)

module _ (t : Table) (m m' : Memory) (p : Past) (f : Flow) (j : ℕ) (text : List ℕ) (row bucket : ℕ) where
  -- the head is not redirected, if it was not
  abbrev pub IsTurnedNot : Type 0
  IsTurnedNot = is_redirected (m' (place.Head row bucket)) ≡ true → is_redirected (m (place.Head row bucket)) ≡ true

  -- the head stays; or it was locked or the step has an event on the bucket, and it is not redirected or its bucket is locked
  abbrev pub HeadMoves : Step → Type 0
  HeadMoves s = (m' (place.Head row bucket) ≡ m (place.Head row bucket))
      ⊎ ((IsTurnedNot ⊎ IsLockedHead p.now row bucket) × ((is_locked (m (place.Head row bucket)) ≡ true) ⊎ ((w : What) × (event_of text s (found s m) ≡ Some w) × IsCreateUnlinkOrLockOn p.now row bucket w)))

  -- a word without the mark is put
  put_plain : (word : ℕ) → m' (place.Head row bucket) ≡ word → is_redirected word ≡ false → IsTurnedNot
  put_plain word is plain redirected = absurd (let clash : false ≡ true = sym plain ∙ ap is_redirected (sym is) ∙ redirected in cc)

  locked_here : (r b : ℕ) (first : Option ℕ) → place.Head row bucket ≡ place.Head r b → m (place.Head r b) ≡ locked_head first → is_locked (m (place.Head row bucket)) ≡ true
  locked_here r b first is head = ap is_locked (ap m is ∙ head) ∙ locked_so first

  left_so : (s : Step) (word head : ℕ) → place.Head row bucket ≡ (access_of s).place → m' (access_of s).place ≡ cond (found s m == head) word (found s m) → (found s m == head) ≡ false →
      m' (place.Head row bucket) ≡ m (place.Head row bucket)
  left_so s word head is made other = ap m' is ∙ made ∙ ap (λ b. cond b word (found s m)) other ∙ ap m (sym is)

  moved_here : (s : Step) → IsMade s m m' → Backs t m p f j text s → place.Head row bucket ≡ (access_of s).place → HeadMoves s
  moved_here (step.LoadHead r b) made backs is = inl (ap (λ (n : Memory). n (place.Head row bucket)) (after_load (step.LoadHead r b) m m' refl made))
  moved_here (step.CreateEntry h r b head) made backs is = go (m (place.Head r b) == head) refl
    where
      go : (c : Bool) → (m (place.Head r b) == head) ≡ c → HeadMoves (step.CreateEntry h r b head)
      go true same =
          let at = one_head r b row bucket is in
          let home : bucket_of p.now.seed row text ≡ bucket = ap (λ x. bucket_of p.now.seed x text) at.0 ∙ sym backs.at_bucket ∙ sym at.1 in
          let put : m' (place.Head row bucket) ≡ plain_head (Some h.slot) = ap m' is ∙ made.here ∙ ap (λ c. cond c (plain_head (Some h.slot)) (m (place.Head r b))) same in
          inr (inl (put_plain (plain_head (Some h.slot)) put (plain_so (Some h.slot))), inr (what.Create text h, ap (λ c. cond c (Some (what.Create text h)) None) same, inl (text, h, refl, home)))
      go false other = inl (left_so (step.CreateEntry h r b head) (plain_head (Some h.slot)) head is made.here other)
  moved_here (step.LockHead r b head) made backs is = go (m (place.Head r b) == head) refl
    where
      go : (c : Bool) → (m (place.Head r b) == head) ≡ c → HeadMoves (step.LockHead r b head)
      go true same =
          let at = one_head r b row bucket is in
          let put : m' (place.Head row bucket) ≡ head + 1 = ap m' is ∙ made.here ∙ ap (λ c. cond c (head + 1) (m (place.Head r b))) same in
          let was : m (place.Head row bucket) ≡ head = ap m is ∙ eqb-true (m (place.Head r b)) head same in
          let turned : IsTurnedNot = λ redirected. ap is_redirected was ∙ sym (mark_stays head backs.0) ∙ ap is_redirected (sym put) ∙ redirected in
          inr (inl turned, inr (what.Lock r b, ap (λ c. cond c (Some (what.Lock r b)) None) same, inr (inr (ap (λ x. what.Lock x b) (sym at.0) ∙ ap (what.Lock row) (sym at.1)))))
      go false other = inl (left_so (step.LockHead r b head) (head + 1) head is made.here other)
  moved_here (step.UnlockHead r b first) made backs is = inr (
    inl (put_plain (plain_head first) (ap m' is ∙ made.here) (plain_so first)),
    inl (elim backs [
      | inl locked ↦ locked_here r b first is locked.head
      | inr ends ↦ locked_here r b ends.0.even.first is (ap (λ x. m (place.Head x b)) ends.1 ∙ ends.2.even.locked.1)
    ]),
  )
  moved_here (step.Unlink slot (edge.Head r b) next) made backs is =
      let (same_row, same_bucket, lock) = backs.leads in
      inr (inl (put_plain (locked_head next) (ap m' is ∙ made.here) (locked_plain next)), inl (locked_here r b (Some slot) is (ap (λ x. m (place.Head x b)) same_row ∙ ap (λ x. m (place.Head backs.row x)) same_bucket ∙ lock.head)))
  moved_here (step.Unlink slot (edge.Link last) next) made backs is = absurd (cc)
  moved_here (step.PutHead r b first) made backs is =
      let at = one_head r b row bucket is in
      inr (inl (put_plain (locked_head first) (ap m' is ∙ made.here) (locked_plain first)), inr (what.Lock r b, refl, inr (inr (ap (λ x. what.Lock x b) (sym at.0) ∙ ap (what.Lock row) (sym at.1)))))
  moved_here (step.RedirectHead r b first) made backs is =
      let at = one_head r b row bucket is in
      let has : (r ≡ p.now.level) × HasLocked m p.now j r b first = redirect_has m p.now f j r b first backs in
      let lock : p.now.lock row bucket ≡ Some j = ap (λ x. p.now.lock x bucket) at.0 ∙ ap (p.now.lock r) at.1 ∙ has.1.0 in
      inr (inr (at.0 ∙ has.0, (j, lock)), inl (locked_here r b first is has.1.1))
  moved_here (step.MoveEdge (edge.Head r b) next) made backs is =
      let has : (first : Option ℕ) × (m (place.Head r b) ≡ locked_head first) = move_has m p.now f j r b next backs in
      inr (inl (put_plain (locked_head next) (ap m' is ∙ made.here) (locked_plain next)), inl (locked_here r b has.0 is has.1))
  moved_here (step.MoveEdge (edge.Link last) next) made backs is = absurd (cc)
  moved_here step.LoadDraws made backs is = absurd (cc)
  moved_here step.Draw made backs is = absurd (cc)
  moved_here step.LoadCounter made backs is = absurd (cc)
  moved_here (step.OpenSection number counter) made backs is = absurd (cc)
  moved_here (step.CloseSection number) made backs is = absurd (cc)
  moved_here step.LoadLevel made backs is = absurd (cc)
  moved_here step.LoadNewLevel made backs is = absurd (cc)
  moved_here (step.LoadLink slot) made backs is = absurd (cc)
  moved_here (step.LoadMeta slot) made backs is = absurd (cc)
  moved_here (step.LoadText slot at) made backs is = absurd (cc)
  moved_here (step.LoadCount slot) made backs is = absurd (cc)
  moved_here (step.SeeEntry kind slot) made backs is = absurd (cc)
  moved_here (step.SeeHandle change h) made backs is = absurd (cc)
  moved_here (step.TakeEntry slot count) made backs is = absurd (cc)
  moved_here (step.ChangeEntry change h count) made backs is = absurd (cc)
  moved_here (step.ClaimSlot slot) made backs is = absurd (cc)
  moved_here (step.FreeSlot slot) made backs is = absurd (cc)
  moved_here (step.PutMeta slot meta) made backs is = absurd (cc)
  moved_here (step.PutText slot at word) made backs is = absurd (cc)
  moved_here (step.PutLink slot next) made backs is = absurd (cc)
  moved_here (step.PutCount h holds) made backs is = absurd (cc)
  moved_here (step.PutNextGeneration slot generation) made backs is = absurd (cc)
  moved_here step.RaiseCounter made backs is = absurd (cc)
  moved_here (step.LoadSection number) made backs is = absurd (cc)
  moved_here (step.TakeResizeLock number) made backs is = absurd (cc)
  moved_here step.GiveResizeLock made backs is = absurd (cc)
  moved_here (step.PutNewLevel level) made backs is = absurd (cc)
  moved_here (step.StoreLevel level) made backs is = absurd (cc)
  moved_here (step.JoinChains slot next) made backs is = absurd (cc)

  pub head_moves : (s : Step) → IsMade s m m' → Backs t m p f j text s → HeadMoves s
  head_moves s made backs = elim (place_cases (place.Head row bucket) (access_of s).place) [
    | inl here ↦ moved_here s made backs here
    | inr away ↦ inl (made.there (place.Head row bucket) away)
  ]

-- an event since a place stays one in a longer log
pub since_on : (i load : ℕ) (Is : List Event → What → Type 0) (log more : List Event) → AnotherSince i Is load log → AnotherSince i Is load (log ++ more)
since_on i load Is log more h = (h.0, h.1 ++ more, h.2, ap (λ l. l ++ more) h.3 ∙ append_assoc h.0 (h.2 ∷ h.1) more, h.4, h.5, h.6)

was_on : (Was : List Event → Type 0) (load : ℕ) (log more : List Event) (Other : Type 0) → Other ⊎ WasSince Was load log → Other ⊎ WasSince Was load (log ++ more)
was_on Was load log more Other h = elim h [
  | inl other ↦ inl other
  | inr since ↦ inr (since.0, since.1 ++ more, ap (λ l. l ++ more) since.2 ∙ append_assoc since.0 since.1 more, since.3, since.4)
]

longer : (load : ℕ) (log more : List Event) → load ≤ length log → load ≤ length (log ++ more)
longer load log more early = let whole = length-append log more in omega (arith, early, whole)

-- a step of another seat
pub kept_by_others : (t : Table) (m m' : Memory) (f : Flow) (i j : ℕ) (text : List ℕ) (s : Step) (log : List Event) (row bucket load head : ℕ) (Is : List Event → What → Type 0) (Was : List Event → Type 0) →
    ((w : What) → IsCreateUnlinkOrLockOn (now_in t log) row bucket w → Is log w) → (IsLockedHead (now_in t log) row bucket → Was log) → j ≢ i → IsMade s m m' → Backs t m (past_of t.shape.min_level log) f j text s →
    HeadKept m i row bucket load head Is Was log → HeadKept m' i row bucket load head Is Was (log ++ events_of j (event_of text s (found s m)))
kept_by_others t m m' f i j text s log row bucket load head Is Was weaker locks other made backs h = record {
  early = longer load log (events_of j (event_of text s (found s m))) h.early;
  says = λ free. elim (h.says free) [
    | inr since ↦ inr (since_on i load Is log (events_of j (event_of text s (found s m))) since)
    | inl same ↦ elim (head_moves t m m' (past_of t.shape.min_level log) f j text row bucket s made backs) [
      | inl stays ↦ inl (stays ∙ same)
      | inr (turned, inl locked) ↦ absurd (let clash : true ≡ false = sym locked ∙ ap is_locked same ∙ free in cc)
      | inr (turned, inr (w, is, on)) ↦ inr (log, [], by j w, ap (λ (e : Option What). log ++ events_of j e) is, h.early, other, weaker w on)
    ]
  ];
  turned = λ redirected. elim (head_moves t m m' (past_of t.shape.min_level log) f j text row bucket s made backs) [
    | inl stays ↦ was_before (ap is_redirected (sym stays) ∙ redirected)
    | inr (inl turned, rest) ↦ was_before (turned redirected)
    | inr (inr locked, rest) ↦ inr (log, events_of j (event_of text s (found s m)), refl, h.early, locks locked)
  ];
}
  where
    was_before : is_redirected (m (place.Head row bucket)) ≡ true → (is_redirected head ≡ true) ⊎ WasSince Was load (log ++ events_of j (event_of text s (found s m)))
    was_before redirected = was_on Was load log (events_of j (event_of text s (found s m))) (is_redirected head ≡ true) (h.turned redirected)

-- an own step that is not on the head
pub kept_by_own : (m m' : Memory) (i : ℕ) (s : Step) (log more : List Event) (row bucket load head : ℕ) (Is : List Event → What → Type 0) (Was : List Event → Type 0) → IsMade s m m' →
    place.Head row bucket ≢ (access_of s).place → HeadKept m i row bucket load head Is Was log → HeadKept m' i row bucket load head Is Was (log ++ more)
kept_by_own m m' i s log more row bucket load head Is Was made away h = record {
  early = longer load log more h.early;
  says = λ free. elim (h.says free) [
    | inr since ↦ inr (since_on i load Is log more since)
    | inl same ↦ inl (made.there (place.Head row bucket) away ∙ same)
  ];
  turned = λ redirected. was_on Was load log more (is_redirected head ≡ true) (h.turned (ap is_redirected (sym (made.there (place.Head row bucket) away)) ∙ redirected));
}

-- the load of the head
pub kept_from_load : (m m' : Memory) (i row bucket load : ℕ) (log more : List Event) (Is : List Event → What → Type 0) (Was : List Event → Type 0) → IsMade (step.LoadHead row bucket) m m' → load ≡ length log →
    HeadKept m' i row bucket load (m (place.Head row bucket)) Is Was (log ++ more)
kept_from_load m m' i row bucket load log more Is Was made at = record {
  early = longer load log more (omega (arith, at));
  says = λ free. inl (ap (λ (n : Memory). n (place.Head row bucket)) (after_load (step.LoadHead row bucket) m m' refl made));
  turned = λ redirected. inl (ap (λ (n : Memory). is_redirected (n (place.Head row bucket))) (sym (after_load (step.LoadHead row bucket) m m' refl made)) ∙ redirected);
}
