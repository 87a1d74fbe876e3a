-- The links of unlinked slots lead to slots that were linked as those were unlinked, and each step keeps that.
use Rattle.std.proofs.Common.{◌≡◌, ◌≢◌, ◌==◌, Bool, true, false, cond, ℕ, ◌+◌, ◌<◌, ◌≤◌, inl, inr, List, [], ◌∷◌, ◌++◌, length, Option, Some, None, refl, sym, ap, subst, ◌∙◌, arith}
use Rattle.std.proofs.lemmas.Bool.{cases_eq}
use Rattle.std.proofs.lemmas.List.{take_at, take-append-le}
use Rattle.chain_core.specs.Nodes.{On}
use Rattle.chain_core.proofs.Members.{on_right}
use Rattle.marked_word.specs.Link.{node_of}
use Rattle.table_shape.specs.declared.place.Place.TheVariants as place
use Rattle.intern_log.specs.declared.event.Event.{Event}
use Rattle.intern_log.specs.declared.event.Kind.TheVariants.{Counted, Weak}
use Rattle.intern_log.specs.declared.event.What.{What}
use Rattle.intern_log.specs.declared.event.What.TheVariants as what
use Rattle.intern_log.specs.Now.{Linked, Unlinked, now_of}
use Rattle.intern_log.proofs.OneMore.{place_is}
use Rattle.atomic_step.specs.declared.count.Change.TheVariants.{Drop, Permanent, Kill}
use Rattle.atomic_step.specs.declared.step.Edge.{Edge}
use Rattle.atomic_step.specs.declared.step.Edge.TheVariants as edge
use Rattle.atomic_step.specs.declared.step.Step.{Step}
use Rattle.atomic_step.specs.declared.step.Step.TheVariants as step
use Rattle.atomic_step.specs.Count.{holds_of, handle_at}
use Rattle.atomic_step.specs.Event.{event_of}
use Rattle.call_machine.specs.Resize.{other, chain_at, edge_from}
use Rattle.cht_core.specs.declared.table.Table.{Table}
use Rattle.cht_core.specs.Backs.{Backs, MayUnlink}
use Rattle.cht_core.specs.Edges.{UnlinkedLead, WasLinked}
use Rattle.cht_core.specs.Flow.{Flow}
use Rattle.cht_core.specs.Invariant.{events_of}
use Rattle.cht_core.specs.KnowsResize.{MayMove, IsLast, Over, side_bucket}
use Rattle.cht_core.specs.Memory.{Memory, IsMade, found, links}
use Rattle.cht_core.specs.Parts.{UnlinkedLeadLater}
use Rattle.cht_core.specs.Past.{Past, past_of, told}
use Rattle.cht_core.specs.Search.{IsLinked}
use Rattle.cht_core.specs.TableState.{IsTable}
use Rattle.cht_core.specs.Tidy.{IsTidy}
use Rattle.cht_core.proofs.Absent.{claimed_not_unlinked}
use Rattle.cht_core.proofs.Basics.{after_load}
use Rattle.cht_core.proofs.EdgesLead.{on_chain_linked, link_leads, link_leads_on}
use Rattle.cht_core.proofs.Joins.{join_linked}
use Rattle.cht_core.proofs.MoveEdges.{side_at}
use Rattle.cht_core.proofs.TidyKept.{past_of-told}
use Rattle.cht_core.proofs.UnlinkPlaces.{cut_told, cut_after_linked, cut_apart}

-- BY AN EVENT

module _ (t : Table) (m m' : Memory) (log : List Event) (i : ℕ) (e : Option What) (tidy : IsTidy t (now_of t.shape.min_level log)) (lead : UnlinkedLead t m log) where
  -- the first events of a log are those of a longer one
  was_linked_on : (count s : ℕ) → count ≤ length log → WasLinked t log count s → WasLinked t (log ++ events_of i e) count s
  was_linked_on count s inside was = subst (λ (events : List Event). IsLinked (now_of t.shape.min_level events) s) (sym (take-append-le count log (events_of i e) inside)) was

  linked_at_end : (count s : ℕ) → count ≡ length log → IsLinked (now_of t.shape.min_level log) s → WasLinked t (log ++ events_of i e) count s
  linked_at_end count s here linked = subst (λ (events : List Event). IsLinked (now_of t.shape.min_level events) s) (sym (take_at log (events_of i e) count (sym here))) linked

  -- the links of unlinked slots stay, and that of a slot which the event unlinks leads to another slot that is linked before it
  pub unlinked_lead_told : ((s k at : ℕ) → (now_of t.shape.min_level log).slot s ≡ Unlinked k at → m' (place.Link s) ≡ m (place.Link s))
      → ((s next : ℕ) → e ≡ Some (what.Unlink s) → links m' s ≡ Some next → (next ≢ s) × IsLinked (now_of t.shape.min_level log) next) → UnlinkedLead t m' (log ++ events_of i e)
  unlinked_lead_told stays cuts s next k at is leads =
      let told_is : past_of t.shape.min_level (log ++ events_of i e) ≡ told (past_of t.shape.min_level log) i e = past_of-told t.shape.min_level log i e in
      let length_is : (now_of t.shape.min_level log).place ≡ length log = place_is t.shape.min_level log in
      elim (cut_told (past_of t.shape.min_level log) i e s k at (subst (λ (p : Past). p.now.slot s ≡ Unlinked k at) told_is is)) [
        | inl was ↦ (
            let before : (next ≢ s) × WasLinked t log at next = lead s next k at was (sym (ap node_of (stays s k at was)) ∙ leads) in
            let early : at < (now_of t.shape.min_level log).place = tidy.unlinked s k at was in
            (before.0, was_linked_on at next (omega (arith, early, length_is)) before.1))
        | inr made ↦ (
            let new : (next ≢ s) × IsLinked (now_of t.shape.min_level log) next = cuts s next made.0 leads in
            (new.0, linked_at_end at next (made.1 ∙ length_is) new.1))
      ]

-- BY A STEP

-- an event that comes by a test is the one that it comes with
tested : (b : Bool) (w v : What) → cond b (Some w) None ≡ Some v → w ≡ v
tested true w v is = cc
tested false w v is = absurd (cc)

abbrev IsUnlinkOf : Step → ℕ → Type 0
IsUnlinkOf s x = (from : Edge) × (next : Option ℕ) × (s ≡ step.Unlink x from next)

-- an Unlink is the event of the step that unlinks
unlink_step : (text : List ℕ) (s : Step) (word x : ℕ) → event_of text s word ≡ Some (what.Unlink x) → IsUnlinkOf s x
unlink_step text (step.Unlink slot from next) word x is = (from, next, cc)
unlink_step text (step.SeeEntry Counted slot) word x is = absurd (cc)
unlink_step text (step.SeeEntry Weak slot) word x is = absurd (found_none (holds_of word == 0) is)
  where
    found_none : (b : Bool) → cond b None (Some (what.Found text (handle_at slot word))) ≡ Some (what.Unlink x) → ⊥
    found_none true e = cc
    found_none false e = cc
unlink_step text (step.SeeHandle Drop h) word x is = absurd (let same : what.Drop h ≡ what.Unlink x = tested (holds_of word == 65535) (what.Drop h) (what.Unlink x) is in cc)
unlink_step text (step.SeeHandle Permanent h) word x is = absurd (cc)
unlink_step text (step.SeeHandle Kill h) word x is = absurd (cc)
unlink_step text (step.TakeEntry slot count) word x is =
    absurd (let same : what.Take text (handle_at slot count) ≡ what.Unlink x = tested (word == count) (what.Take text (handle_at slot count)) (what.Unlink x) is in cc)
unlink_step text (step.ChangeEntry Drop h count) word x is = absurd (let same : what.Drop h ≡ what.Unlink x = tested (word == count) (what.Drop h) (what.Unlink x) is in cc)
unlink_step text (step.ChangeEntry Permanent h count) word x is = absurd (let same : what.Perm h ≡ what.Unlink x = tested (word == count) (what.Perm h) (what.Unlink x) is in cc)
unlink_step text (step.ChangeEntry Kill h count) word x is = absurd (let same : what.Kill h ≡ what.Unlink x = tested (word == count) (what.Kill h) (what.Unlink x) is in cc)
unlink_step text (step.ClaimSlot slot) word x is = absurd (let same : what.Claim slot ≡ what.Unlink x = tested (word == 0) (what.Claim slot) (what.Unlink x) is in cc)
unlink_step text (step.CreateEntry h row bucket head) word x is = absurd (let same : what.Create text h ≡ what.Unlink x = tested (word == head) (what.Create text h) (what.Unlink x) is in cc)
unlink_step text (step.LockHead row bucket head) word x is = absurd (let same : what.Lock row bucket ≡ what.Unlink x = tested (word == head) (what.Lock row bucket) (what.Unlink x) is in cc)
unlink_step text (step.TakeResizeLock number) word x is = absurd (let same : what.ResizeTaken ≡ what.Unlink x = tested (word == 0) what.ResizeTaken (what.Unlink x) is in cc)
unlink_step text _ word x is = absurd (cc)

-- the link of which an edge is made is that of the last node, which is on the list
edge_last : (row bucket last : ℕ) (end : Option ℕ) (own : List ℕ) → edge.Link last ≡ edge_from row bucket end → IsLast end own → On last own
edge_last row bucket last None own is at = absurd (cc)
edge_last row bucket last (Some x) own is at =
    let here : x ≡ last = cc in
    subst (λ (s : ℕ). On s own) here (subst (On x) (sym at.1) (on_right at.0 (x ∷ []) x (inl refl)))

-- the node whose link is moved past another one is linked
move_linked : (m : Memory) (p : Past) (f : Flow) (i last : ℕ) (next : Option ℕ) → MayMove m p.now f i (edge.Link last) next → IsLinked p.now last
move_linked m p f i last next may =
    let lost = side_at m p.now f i p.now.level may.bucket may.chains (Some may.node) Over may.unzipping (other may.side) in
    let on : On last lost.own = edge_last (p.now.level + 1) (side_bucket p.now.level may.bucket (other may.side)) last (chain_at may.chains (other may.side)).last lost.own may.edge lost.last in
    let node = lost.mine last on in
    (node.0, node.1, node.2, node.3)

module _ (t : Table) (m m' : Memory) (p : Past) (f : Flow) (i : ℕ) (text : List ℕ) (table : IsTable t m p f) where
  -- the edge to a slot that is unlinked is the head of its bucket, or the link of a linked slot
  link_stays_by : (s k at slot : ℕ) (from : Edge) (next : Option ℕ) → MayUnlink m p f i slot from next → IsMade (step.Unlink slot from next) m m' → p.now.slot s ≡ Unlinked k at
      → m' (place.Link s) ≡ m (place.Link s)
  link_stays_by s k at slot (edge.Head r b) next may made is = made.there (place.Link s) (λ same. cc)
  link_stays_by s k at slot (edge.Link last) next may made is = made.there (place.Link s) (λ same.
      let here : s ≡ last = cc in
      let linked : IsLinked p.now last = on_chain_linked t m p f table may.row may.bucket last may.leads.0.1.used may.leads.1 in
      let clash : Linked linked.0 linked.1 linked.2 ≡ Unlinked k at = sym linked.3 ∙ ap p.now.slot (sym here) ∙ is in
      cc)

  -- the edge that is moved past a node is a head, or the link of a linked slot
  moved_stays : (s k at : ℕ) (from : Edge) (next : Option ℕ) → MayMove m p.now f i from next → IsMade (step.MoveEdge from next) m m' → p.now.slot s ≡ Unlinked k at
      → m' (place.Link s) ≡ m (place.Link s)
  moved_stays s k at (edge.Head r b) next may made is = made.there (place.Link s) (λ same. cc)
  moved_stays s k at (edge.Link last) next may made is = made.there (place.Link s) (λ same.
      let here : s ≡ last = cc in
      let linked : IsLinked p.now last = move_linked m p f i last next may in
      let clash : Linked linked.0 linked.1 linked.2 ≡ Unlinked k at = sym linked.3 ∙ ap p.now.slot (sym here) ∙ is in
      cc)

  -- no step changes the link of an unlinked slot
  link_stays : (s : Step) (slot k at : ℕ) → Backs t m p f i text s → IsMade s m m' → p.now.slot slot ≡ Unlinked k at → m' (place.Link slot) ≡ m (place.Link slot)
  link_stays (step.LoadLink x) slot k at backs made is = ap (λ (n : Memory). n (place.Link slot)) (after_load (step.LoadLink x) m m' refl made)
  link_stays (step.PutLink x next) slot k at backs made is = made.there (place.Link slot) (λ same.
      let here : slot ≡ x = cc in
      claimed_not_unlinked (p.now.slot x) i k at backs (ap p.now.slot (sym here) ∙ is))
  link_stays (step.Unlink x from next) slot k at backs made is = link_stays_by slot k at x from next backs made is
  link_stays (step.MoveEdge from next) slot k at backs made is = moved_stays slot k at from next backs made is
  link_stays (step.JoinChains x next) slot k at backs made is = made.there (place.Link slot) (λ same.
      let here : slot ≡ x = cc in
      let linked : IsLinked p.now x = join_linked t m p f i x next table backs in
      let clash : Linked linked.0 linked.1 linked.2 ≡ Unlinked k at = sym linked.3 ∙ ap p.now.slot (sym here) ∙ is in
      cc)
  link_stays _ slot k at backs made is = made.there (place.Link slot) (λ same. cc)

  -- nor that of the slot which it unlinks
  link_stays_here : (slot : ℕ) (from : Edge) (next : Option ℕ) → MayUnlink m p f i slot from next → IsMade (step.Unlink slot from next) m m' → m' (place.Link slot) ≡ m (place.Link slot)
  link_stays_here slot (edge.Head r b) next may made = made.there (place.Link slot) (λ same. cc)
  link_stays_here slot (edge.Link last) next may made = elim (cases_eq slot last) [
    | inl same ↦ ap (λ x. m' (place.Link x)) same ∙ made.here ∙ sym may.link
    | inr differ ↦ made.there (place.Link slot) (λ (is : place.Link slot ≡ place.Link last). differ (cc))
  ]

  -- the link of a slot that a step unlinks leads to another linked slot
  cut_leads : (s : Step) (slot next : ℕ) → Backs t m p f i text s → IsMade s m m' → event_of text s (found s m) ≡ Some (what.Unlink slot) → links m' slot ≡ Some next
      → (next ≢ slot) × IsLinked p.now next
  cut_leads s slot next backs made is leads =
      let at : IsUnlinkOf s slot = unlink_step text s (found s m) slot is in
      let may : MayUnlink m p f i slot at.0 at.1 = subst (Backs t m p f i text) at.2 backs in
      let cut : IsMade (step.Unlink slot at.0 at.1) m m' = subst (λ (x : Step). IsMade x m m') at.2 made in
      let linked : IsLinked p.now slot = (may.dead.0, may.dead.1, may.dead.2, may.dead.3) in
      let before : links m slot ≡ Some next = sym (ap node_of (link_stays_here slot at.0 at.1 may cut)) ∙ leads in (
        (λ same. link_leads_on t m p f table slot linked (before ∙ ap Some same)),
        link_leads t m p f table slot next linked before,
      )

-- each step that the table backs keeps it
pub unlinked_lead_after : (t : Table) (m m' : Memory) (log : List Event) (f : Flow) (i : ℕ) (text : List ℕ) (s : Step) → IsTable t m (past_of t.shape.min_level log) f
    → Backs t m (past_of t.shape.min_level log) f i text s → IsMade s m m' → UnlinkedLead t m log → UnlinkedLead t m' (log ++ events_of i (event_of text s (found s m)))
unlinked_lead_after t m m' log f i text s table backs made lead = unlinked_lead_told t m m' log i (event_of text s (found s m)) table.tidy lead
    (λ x k at is. link_stays t m m' (past_of t.shape.min_level log) f i text table s x k at backs made is)
    (λ x next is leads. cut_leads t m m' (past_of t.shape.min_level log) f i text table s x next backs made is leads)

-- WHAT IT COMES TO

-- what an unlinked slot leads to was unlinked after it, if it is
pub unlinked_later : (t : Table) (m : Memory) (log : List Event) (tidy : IsTidy t (now_of t.shape.min_level log)) → UnlinkedLead t m log → UnlinkedLeadLater m (now_of t.shape.min_level log)
unlinked_later t m log tidy lead s next i j at by is leads gone =
    let was : (next ≢ s) × WasLinked t log at next = lead s next i at is leads in
    let early : at < (now_of t.shape.min_level log).place = tidy.unlinked s i at is in
    let length_is : (now_of t.shape.min_level log).place ≡ length log = place_is t.shape.min_level log in
    let since : at ≤ by = cut_after_linked t.shape.min_level log next j by at (omega (arith, early, length_is)) was.1 gone in
    elim (cases_eq at by) [
      | inl same ↦ absurd (was.0 ((cut_apart t.shape.min_level log).apart next s j i by gone (is ∙ ap (Unlinked i) same)))
      | inr differ ↦ omega (arith, since, differ)
    ]
