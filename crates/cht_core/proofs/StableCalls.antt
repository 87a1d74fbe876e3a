-- What a try call or a call by handle knows at its stage still holds after a step of another seat.
use Rattle.std.proofs.Common.{◌≡◌, ℕ, zero, suc, ◌+◌, ◌<◌, ◌≤◌, List, length, Option, Some, None, IfSome, refl, sym, ap, subst, ◌∙◌, inl, inr, arith}
use Rattle.std.proofs.lemmas.Bool.{cases_eq}
use Rattle.text_words.specs.Hash.{hash_of}
use Rattle.text_words.specs.Words.{words_of, word_at}
use Rattle.marked_word.specs.Head.{first_of}
use Rattle.table_shape.specs.declared.place.Place.TheVariants as place
use Rattle.intern_log.specs.declared.event.Handle.{Handle}
use Rattle.intern_log.specs.declared.event.Kind.{Kind}
use Rattle.intern_log.specs.declared.event.Kind.TheVariants.{Counted, Weak}
use Rattle.intern_log.specs.Now.{Claimed, Linked, Unlinked}
use Rattle.intern_log.specs.TextMap.{IsLive}
use Rattle.atomic_step.specs.declared.count.Change.{Change}
use Rattle.atomic_step.specs.declared.count.Change.TheVariants.{Drop, Permanent, Kill}
use Rattle.atomic_step.specs.Count.{generation_of, holds_word}
use Rattle.call_machine.specs.declared.enter.EnterStage.{EnterStage}
use Rattle.call_machine.specs.declared.enter.EnterStage.TheVariants as enter
use Rattle.call_machine.specs.declared.find.FindStage.{FindStage}
use Rattle.call_machine.specs.declared.find.FindStage.TheVariants as find
use Rattle.call_machine.specs.declared.find.Walk.{Walk}
use Rattle.call_machine.specs.declared.handle.HandleStage.{HandleStage}
use Rattle.call_machine.specs.declared.handle.HandleStage.TheVariants as handle
use Rattle.call_machine.specs.declared.insert.InsertStage.{InsertStage}
use Rattle.call_machine.specs.declared.insert.InsertStage.TheVariants as insert
use Rattle.call_machine.specs.declared.leave.LeaveStage.{LeaveStage}
use Rattle.call_machine.specs.declared.leave.LeaveStage.TheVariants as leave
use Rattle.call_machine.specs.declared.node.NodeStage.{NodeStage}
use Rattle.call_machine.specs.declared.node.NodeStage.TheVariants as node
use Rattle.call_machine.specs.declared.read.ReadStage.{ReadStage}
use Rattle.call_machine.specs.declared.read.ReadStage.TheVariants as read
use Rattle.call_machine.specs.declared.stage.Along.{Along}
use Rattle.call_machine.specs.declared.stage.Asked.{Asked}
use Rattle.call_machine.specs.declared.stage.CallStage.{CallStage}
use Rattle.call_machine.specs.declared.stage.CallStage.TheVariants as stage
use Rattle.cht_core.specs.declared.table.Table.{Table}
use Rattle.cht_core.specs.Flow.{Flow}
use Rattle.cht_core.specs.KnowsCall.{KnowsEnter, KnowsFind, KnowsNode, KnowsInsert, KnowsLeave, KnowsHandle, KnowsRead, KnowsStage, KnowsCall, KnowsKept}
use Rattle.cht_core.specs.KnowsCall.{IsKept, IsAtHead, HasClaimed, HasWords, AtNode, AtEnd, MayChange, Reading}
use Rattle.cht_core.specs.Ledger.{sum_below}
use Rattle.cht_core.specs.Memory.{Memory}
use Rattle.cht_core.specs.Past.{Past}
use Rattle.cht_core.specs.Rely.{Grows, Spares}
use Rattle.cht_core.specs.Search.{IsInside, IsOutside, IsSeen}
use Rattle.cht_core.specs.TableState.{IsTable}
use Rattle.cht_core.specs.Tidy.{IsTidy}
use Rattle.cht_core.proofs.Stable.{no_match_grows, searched_grows, walking_grows, seen_grows, newly_unlinked, unlinked_since_grows}

-- what a seat holds is a part of the sum
pub part_of_sum : (seats : ℕ) (value : ℕ → ℕ) (k : ℕ) → k < seats → value k ≤ sum_below seats value
part_of_sum zero value k below = absurd (omega (arith, below))
part_of_sum (suc n) value k below = elim (cases_eq k n) [
  | inl last ↦ subst (λ (x : ℕ). value x ≤ sum_below n value + value n) (sym last) (omega arith)
  | inr other ↦ let part : value k ≤ sum_below n value = part_of_sum n value k (omega (arith, below, other)) in omega (arith, part)
]

module _ (t : Table) (m : Memory) (p : Past) (f : Flow) (m' : Memory) (p' : Past) (f' : Flow) (tidy : IsTidy t p.now) (table' : IsTable t m' p' f') (g : Grows m p f m' p' f') where
  module _ (i : ℕ) (z : Spares i m p f m' p' f') where
    outside_grows : IsOutside p.now i → IsOutside p'.now i
    outside_grows h = z.section ∙ h

    inside_grows : IsInside p.now i → IsInside p'.now i
    inside_grows h = (h.0, z.section ∙ h.1)

    -- what a call that opens its section knows
    pub enter_grows : (s : EnterStage) → KnowsEnter m p.now i s → KnowsEnter m' p'.now i s
    enter_grows enter.LoadCounter h = outside_grows h
    enter_grows (enter.OpenSection counter) h =
        let less : counter ≤ m place.Counter = h.1 in
        let more : m place.Counter ≤ m' place.Counter = g.counter in
        (outside_grows h.0, omega (arith, less, more))

    -- a seat that was sent to a head is still at one
    pub at_head_grows : (hash : ℕ) (walk : Walk) → IsAtHead p.now f i hash walk → IsAtHead p'.now f' i hash walk
    at_head_grows hash walk h = (h.0, z.section ∙ h.1, g.routes i hash walk.row h.0 h.1 h.2, h.3)

    -- what a call that finds its head knows
    pub find_grows : (hash : ℕ) (walk : Walk) (s : FindStage) → KnowsFind m p.now f i hash walk s → KnowsFind m' p'.now f' i hash walk s
    find_grows hash walk (find.Enter s) h = enter_grows s h
    find_grows hash walk find.LoadLevel h = inside_grows h
    find_grows hash walk find.LoadHead h = at_head_grows hash walk h
    find_grows hash walk find.LoadNewLevel h = (h.0, z.section ∙ h.1, g.onward i hash walk.row h.0 h.1 h.2)
    find_grows hash walk find.LoadNewHead h =
        (h.0, z.section ∙ h.1, g.routes i hash walk.row h.0 h.1 h.2, h.3, (h.4.0, h.4.1, g.onward i hash h.4.0 h.0 h.1 h.4.2))

    -- a slot that the seat has claimed keeps its words
    pub claimed_grows : (h : Handle) → HasClaimed m p.now i h → HasClaimed m' p'.now i h
    claimed_grows h c = (z.claimed h.slot c.0, ap generation_of (z.count h.slot c.0) ∙ c.1)

    words_grows : (seed : ℕ) (text : List ℕ) (s bound : ℕ) → p.now.slot s ≡ Claimed i → HasWords m seed text s bound → HasWords m' seed text s bound
    words_grows seed text s bound c h = (z.meta s c ∙ h.0, λ at less within. z.text s at c ∙ h.1 at less within)

    is_kept_grows : (seed : ℕ) (text : List ℕ) (h : Handle) → IsKept m p.now i seed text h → IsKept m' p'.now i seed text h
    is_kept_grows seed text h k = (claimed_grows h k.0, words_grows seed text h.slot (words_of (length text)) k.0.0 k.1, z.count h.slot k.0.0 ∙ k.2)

    if_some_grows : (P Q : Handle → Type 0) → ((h : Handle) → P h → Q h) → (kept : Option Handle) → IfSome kept P → IfSome kept Q
    if_some_grows P Q grows None h = tt
    if_some_grows P Q grows (Some k) h = grows k h

    -- the slot that an intern keeps
    pub kept_grows : (q : Asked) (w : Along) → KnowsKept m p.now i q w → KnowsKept m' p'.now i q w
    kept_grows q w h = if_some_grows (IsKept m p.now i q.seed q.text) (IsKept m' p'.now i q.seed q.text) (is_kept_grows q.seed q.text) w.kept h

    -- what a call that leaves its section knows
    pub leave_grows : (q : Asked) (w : Along) (s : LeaveStage) → KnowsLeave m p.now i q w s → KnowsLeave m' p'.now i q w s
    leave_grows q w (leave.UndoCount h after) k = (inside_grows k.0, claimed_grows h k.1)
    leave_grows q w (leave.UndoClaim slot after) k = (inside_grows k.0, z.claimed slot k.1)
    leave_grows q w (leave.Close after) k = (inside_grows k.0, kept_grows q w k.1)

    may_change_grows : (kind : Kind) (change : Change) (h : Handle) → MayChange kind p f i change h → MayChange kind p' f' i change h
    may_change_grows kind Kill h k = (k.0, g.made h k.1)
    may_change_grows kind Drop h k = (k.0, subst (λ (n : ℕ). 1 ≤ n) (sym (z.holds h)) k.1)
    may_change_grows kind Permanent h k = (k.0, subst (λ (n : ℕ). 1 ≤ n) (sym (z.holds h)) k.1)

    -- what a call by handle knows
    pub handle_grows : (q : Asked) (s : HandleStage) → KnowsHandle p f i q s → KnowsHandle p' f' i q s
    handle_grows q (handle.Count change) h = (outside_grows h.0, may_change_grows q.kind change q.handle h.1)
    handle_grows q (handle.Exchange change count) h = (outside_grows h.0, may_change_grows q.kind change q.handle h.1, h.2)

    module _ (load : ℕ) (passed : List ℕ) (q : Asked) (w : Along) where
      at_node_grows : (s : ℕ) → AtNode m p.now f i load passed q w s → AtNode m' p'.now f' i load passed q w s
      at_node_grows s h = record {
        walking = walking_grows t m p f m' p' f' tidy table'.tidy g i z.section q.text (hash_of q.seed q.text) w.walk.row load (first_of w.walk.head) passed (Some s) h.walking;
        bucket = h.bucket;
        counted = h.counted;
        plain = h.plain;
      }

      seen : (s : ℕ) (P : List ℕ → Handle → Type 0) → IsSeen p.now i s P → IsSeen p'.now i s P
      seen s P h = seen_grows t m p f m' p' f' tidy table'.tidy g i z.section s P h

      -- what a walk knows at a node
      pub node_grows : (s : NodeStage) → KnowsNode m p.now f i load passed q w s → KnowsNode m' p'.now f' i load passed q w s
      node_grows (node.Meta s) h = at_node_grows s h
      node_grows (node.Text s at) h = (at_node_grows s h.0, seen s (λ other h. (length other ≡ length q.text) × ((b : ℕ) → b < at → word_at other b ≡ word_at q.text b)) h.1)
      node_grows (node.Count s) h = (at_node_grows s h.0, seen s (λ other h. other ≡ q.text) h.1)
      node_grows (node.Link s) h = (at_node_grows s h.0, no_match_grows t m p f m' p' f' tidy table'.tidy g q.text load s h.0.walking.searched.early h.1)
      node_grows (node.Take s count) h = (seen s (λ other h. other ≡ q.text) h.0, h.1)

      at_end_grows : AtEnd p.now f i load passed q w → AtEnd p'.now f' i load passed q w
      at_end_grows h = record {
        searched = searched_grows t m p f m' p' f' tidy table'.tidy g i z.section q.text (hash_of q.seed q.text) w.walk.row load (first_of w.walk.head) passed h.searched;
        bucket = h.bucket;
        open_head = h.open_head;
        plain = h.plain;
      }

      -- what a call that makes an entry knows
      pub insert_grows : (s : InsertStage) → KnowsInsert m p.now f i load passed q w s → KnowsInsert m' p'.now f' i load passed q w s
      insert_grows (insert.Claim slot tried) h = at_end_grows h
      insert_grows (insert.OwnCount slot) h = (at_end_grows h.0, z.claimed slot h.1)
      insert_grows (insert.PutMeta k) h = (at_end_grows h.0, claimed_grows k h.1)
      insert_grows (insert.PutText k at) h = (at_end_grows h.0, claimed_grows k h.1, words_grows q.seed q.text k.slot at h.1.0 h.2)
      insert_grows (insert.PutLink k) h = (
        at_end_grows h.0,
        claimed_grows k h.1,
        words_grows q.seed q.text k.slot (words_of (length q.text)) h.1.0 h.2,
        if_some_grows (λ (j : Handle). (j ≡ k) × (m (place.Count k.slot) ≡ holds_word k 1)) (λ (j : Handle). (j ≡ k) × (m' (place.Count k.slot) ≡ holds_word k 1))
            (λ j is. (is.0, z.count k.slot h.1.0 ∙ is.1)) w.kept h.3,
      )
      insert_grows (insert.PutCount k) h =
          (at_end_grows h.0, claimed_grows k h.1, words_grows q.seed q.text k.slot (words_of (length q.text)) h.1.0 h.2, z.link k.slot h.1.0 ∙ h.3)
      insert_grows (insert.Create k) h =
          (at_end_grows h.0, claimed_grows k h.1, words_grows q.seed q.text k.slot (words_of (length q.text)) h.1.0 h.2, z.link k.slot h.1.0 ∙ h.3, z.count k.slot h.1.0 ∙ h.4)

    -- who holds a handle keeps it linked with its text
    pub hold_links : t.kind ≡ Counted → i < t.shape.seats → (h : Handle) → 1 ≤ f.holds i h → (text : List ℕ) (born : ℕ) → p.now.slot h.slot ≡ Linked text h born
        → p'.now.slot h.slot ≡ Linked text h born
    hold_links counted seat h holds text born is = elim (g.linked h.slot text h born is) [
      | inl linked ↦ linked
      | inr cut ↦
          let gone : ¬ (IsLive p'.now.texts h) = λ live.
          let entry : (at : ℕ) × (p'.now.slot live.1.0.handle.slot ≡ Linked live.0 live.1.0.handle at) × (1 ≤ live.1.0.count) × (live.1.0.count ≤ 65535) =
          table'.tidy.entries live.0 live.1.0 live.1.1 in
          let here : p'.now.slot h.slot ≡ Linked live.0 live.1.0.handle entry.0 = subst (λ (k : Handle). p'.now.slot k.slot ≡ Linked live.0 live.1.0.handle entry.0) live.1.2 entry.1 in
          absurd (let clash : Unlinked cut.0 p.now.place ≡ Linked live.0 live.1.0.handle entry.0 = sym cut.1 ∙ here in cc) in
          let none : sum_below t.shape.seats (λ k. f'.holds k h) ≡ 0 = (table'.ledger counted).gone h gone in
          let part : f'.holds i h ≤ sum_below t.shape.seats (λ k. f'.holds k h) = part_of_sum t.shape.seats (λ k. f'.holds k h) i seat in
          let same : f'.holds i h ≡ f.holds i h = z.holds h in
          absurd (omega (arith, none, part, same, holds))
    ]

    reading_grows : (h : Handle) (text : List ℕ) → Reading m p.now i h text → Reading m' p'.now i h text
    reading_grows h text r =
        let kept : (m' (place.Meta h.slot) ≡ m (place.Meta h.slot)) × ((at : ℕ) → m' (place.Text h.slot at) ≡ m (place.Text h.slot at)) =
        g.words i h.slot r.section r.inside (elim r.held [ inl l ↦ inl (text, h, l.0, l.1) | inr u ↦ inr u ]) in
        record {
          section = r.section;
          inside = z.section ∙ r.inside;
          held = elim r.held [
            | inl l ↦ elim (g.linked h.slot text h l.0 l.1) [ inl is ↦ inl (l.0, is) | inr cut ↦ inr (newly_unlinked t m p f m' p' f' tidy table'.tidy g i r.section r.inside h.slot cut) ]
            | inr u ↦ inr (unlinked_since_grows t m p f m' p' f' tidy table'.tidy g i r.section r.inside h.slot u)
          ];
          short = r.short;
          words = subst (λ (seed : ℕ). HasWords m' seed text h.slot (words_of (length text))) (sym g.seed)
              (kept.0 ∙ r.words.0, λ at less within. kept.1 at ∙ r.words.1 at less within);
        }

    -- what a call that reads a text knows
    pub read_grows : (q : Asked) → q.kind ≡ t.kind → i < t.shape.seats → (kind : Kind) → q.kind ≡ kind → (s : ReadStage) → KnowsRead m p f i q kind s → KnowsRead m' p' f' i q kind s
    read_grows q ours seat Counted is read.Meta h = (outside_grows h.0, subst (λ (n : ℕ). 1 ≤ n) (sym (z.holds q.handle)) h.1)
    read_grows q ours seat Counted is (read.Text at len) h = (
      outside_grows h.0,
      subst (λ (n : ℕ). 1 ≤ n) (sym (z.holds q.handle)) h.1,
      (h.2.0, h.2.1, hold_links (sym ours ∙ is) seat q.handle h.1 h.2.0 h.2.1 h.2.2, h.2.3),
    )
    read_grows q ours seat Counted is (read.Enter s) h = absurd h
    read_grows q ours seat Counted is read.Count h = absurd h
    read_grows q ours seat Weak is (read.Enter s) h = (enter_grows s h.0, g.made q.handle h.1)
    read_grows q ours seat Weak is read.Count h = (inside_grows h.0, g.made q.handle h.1)
    read_grows q ours seat Weak is read.Meta h = (h.0, reading_grows q.handle h.0 h.1)
    read_grows q ours seat Weak is (read.Text at len) h = (h.0, reading_grows q.handle h.0 h.1, h.2)

    -- what any call knows at its stage
    pub stage_grows : (load : ℕ) (passed : List ℕ) (q : Asked) (w : Along) → q.kind ≡ t.kind → i < t.shape.seats → (s : CallStage)
        → KnowsStage m p f i load passed q w s → KnowsStage m' p' f' i load passed q w s
    stage_grows load passed q w ours seat (stage.Answered a) h = outside_grows h
    stage_grows load passed q w ours seat (stage.Draw s) h = outside_grows h
    stage_grows load passed q w ours seat (stage.Find s) h = (find_grows (hash_of q.seed q.text) w.walk s h.0, kept_grows q w h.1, h.2, h.3)
    stage_grows load passed q w ours seat (stage.Node s) h = (node_grows load passed q w s h.0, kept_grows q w h.1)
    stage_grows load passed q w ours seat (stage.Insert s) h = insert_grows load passed q w s h
    stage_grows load passed q w ours seat (stage.Leave s) h = leave_grows q w s h
    stage_grows load passed q w ours seat (stage.Handle s) h = handle_grows q s h
    stage_grows load passed q w ours seat (stage.Read s) h = read_grows q ours seat q.kind refl s h

    -- the same, and that it has passed no more nodes than the table has slots
    pub call_grows : (load : ℕ) (passed : List ℕ) (q : Asked) (w : Along) → q.kind ≡ t.kind → i < t.shape.seats → (s : CallStage)
        → KnowsCall m p f i load passed q w s → KnowsCall m' p' f' i load passed q w s
    call_grows load passed q w ours seat s h = (stage_grows load passed q w ours seat s h.0, h.1)
