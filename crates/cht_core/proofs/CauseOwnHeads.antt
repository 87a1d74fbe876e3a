-- What a machine knows of the head that it loaded, over its own steps.
use Rattle.std.proofs.Common.{◌≡◌, ℕ, ◌+◌, ◌==◌, List, ◌++◌, length, Option, Some, None, sym, subst}
use Rattle.std.specs.Prelude.{nat_le, nat_lt}
use Rattle.text_words.specs.Words.{words_of, word_at}
use Rattle.marked_word.specs.Head.{is_locked, is_redirected, first_of}
use Rattle.marked_word.specs.Link.{node_of}
use Rattle.marked_word.specs.Meta.{meta_word, length_in}
use Rattle.intern_log.specs.declared.event.Event.{Event}
use Rattle.intern_log.specs.declared.event.Handle.{Handle}
use Rattle.intern_log.specs.declared.event.Kind.{Kind}
use Rattle.intern_log.specs.declared.event.Kind.TheVariants.{Counted, Weak}
use Rattle.atomic_step.specs.Count.{holds_of, handle_at, is_live}
use Rattle.atomic_step.specs.declared.count.Change.{Change}
use Rattle.atomic_step.specs.declared.count.Change.TheVariants.{Drop, Permanent, Kill}
use Rattle.call_machine.specs.declared.draw.DrawStage.TheVariants as draw
use Rattle.call_machine.specs.declared.handle.HandleStage.TheVariants as handle
use Rattle.call_machine.specs.declared.leave.LeaveStage.TheVariants as leave
use Rattle.call_machine.specs.declared.leave.Then.{Then}
use Rattle.call_machine.specs.declared.leave.Then.TheVariants as next
use Rattle.call_machine.specs.declared.read.ReadStage.TheVariants as read
use Rattle.call_machine.specs.Handle.{count_found}
use Rattle.call_machine.specs.Read.{read_all, reads_from}
use Rattle.atomic_step.specs.declared.answer.Answer.{Answer}
use Rattle.atomic_step.specs.declared.answer.Answer.TheVariants as answer
use Rattle.atomic_step.specs.declared.plan.Plan.{Plan}
use Rattle.atomic_step.specs.declared.plan.Plan.TheVariants as plan
use Rattle.atomic_step.proofs.Choices.{where_it_is, either_way}
use Rattle.call_machine.specs.declared.find.FindStage.{FindStage}
use Rattle.call_machine.specs.declared.find.FindStage.TheVariants as find
use Rattle.call_machine.specs.declared.find.Walk.{Walk}
use Rattle.call_machine.specs.declared.insert.InsertStage.{InsertStage}
use Rattle.call_machine.specs.declared.insert.InsertStage.TheVariants as insert
use Rattle.call_machine.specs.declared.node.NodeStage.{NodeStage}
use Rattle.call_machine.specs.declared.node.NodeStage.TheVariants as node
use Rattle.call_machine.specs.declared.stage.Along.{Along}
use Rattle.call_machine.specs.declared.stage.Asked.{Asked}
use Rattle.call_machine.specs.declared.stage.CallStage.{CallStage}
use Rattle.call_machine.specs.declared.stage.CallStage.TheVariants as stage
use Rattle.call_machine.specs.declared.stage.Goal.{Goal}
use Rattle.call_machine.specs.declared.stage.Goal.TheVariants.{Lookup, Intern, InternWait}
use Rattle.call_machine.specs.Calls.{plan_at, next_at, found}
use Rattle.call_machine.specs.Insert.{inserts, next_slot, not_claimed, not_created, lost_head}
use Rattle.call_machine.specs.Leave.{left_for, tries_again, leaves_with, loses_with}
use Rattle.call_machine.specs.Node.{end_of, comes_to, compares_from, passes, met, matches}
use Rattle.call_machine.specs.Sought.{meta_of, has_word}
use Rattle.cht_core.specs.declared.table.Table.{Table}
use Rattle.cht_core.specs.Causes.{loaded_at}
use Rattle.cht_core.specs.CauseCalls.{IsOnHome, IsTextLocked}
use Rattle.cht_core.specs.HeadKept.{HeadKept, WalkHeaded}
use Rattle.cht_core.specs.Memory.{Memory, IsMade}
use Rattle.cht_core.proofs.CauseHeads.{kept_by_own, kept_from_load}
use Rattle.cht_core.proofs.CauseHears.{IsFound}

-- the next step of a plan was made
abbrev pub IsMadeBy : Memory → Memory → Plan → Type 0
IsMadeBy m m' (plan.Step s) = IsMade s m m'
IsMadeBy m m' (plan.Answered a) = Unit {0}

module _ (t : Table) (m m' : Memory) (i : ℕ) (log more : List Event) (q : Asked) where
  abbrev Kept : ℕ → Walk → Type 0
  Kept load walk = HeadKept m' i walk.row walk.bucket load walk.head (IsOnHome t walk.row q.text) (IsTextLocked t q.text) (log ++ more)

  abbrev Has : ℕ → Walk → CallStage → Type 0
  Has load walk s = WalkHeaded t m' i load (log ++ more) q.text walk s

  leaving : (load : ℕ) (walk : Walk) (kept : Option Handle) (a : Answer) → Has load walk (leaves_with kept a)
  leaving load walk None a = tt
  leaving load walk (Some h) a = tt

  losing : (load : ℕ) (walk : Walk) (goal : Goal) (kept : Option Handle) (a : Answer) → Has load walk (loses_with goal kept a)
  losing load walk Lookup kept a = leaving load walk kept a
  losing load walk Intern kept a = leaving load walk kept a
  losing load walk InternWait kept a = tt

  ended : (load : ℕ) (walk : Walk) → Kept load walk → (kept : Option Handle) (cursor head : ℕ) (goal : Goal) → Has load walk (end_of kept cursor head goal)
  ended load walk h kept cursor head Lookup = leaving load walk kept answer.Miss
  ended load walk h kept cursor head Intern = either_way (Has load walk) (is_locked head) (leaves_with kept answer.Locked) (stage.Insert (inserts kept cursor))
      (leaving load walk kept answer.Locked) h
  ended load walk h kept cursor head InternWait = either_way (Has load walk) (is_locked head) tries_again (stage.Insert (inserts kept cursor)) tt h

  coming : (load : ℕ) (walk : Walk) (w : Along) → Kept load walk → (head : ℕ) (o : Option ℕ) → Has load walk (comes_to q w head o)
  coming load walk w h head None = ended load walk h w.kept w.cursor head q.goal
  coming load walk w h head (Some x) = h

  comparing : (load : ℕ) (walk : Walk) → Kept load walk → (x at : ℕ) → Has load walk (stage.Node (compares_from q.text x at))
  comparing load walk h x at = either_way (λ n. Has load walk (stage.Node n)) (has_word q.text at) (node.Text x at) (node.Count x) h h

  matching : (load : ℕ) (walk : Walk) (w : Along) (kind : Kind) (x word : ℕ) → Has load walk (matches q w kind x word)
  matching load walk w Counted x word = tt
  matching load walk w Weak x word = leaving load walk w.kept (met Weak q.goal (handle_at x word))

  not_claiming : (load : ℕ) (w : Along) (slot tried : ℕ) → Kept load w.walk → Has load w.walk (not_claimed q w slot tried)
  not_claiming load w slot tried h =
      either_way (Has load w.walk) (tried + 1 == q.shape.slots) (leaves_with w.kept answer.NoSlot) (stage.Insert (insert.Claim (next_slot q.shape.slots slot) (tried + 1)))
      (leaving load w.walk w.kept answer.NoSlot) h

  beaten : (load : ℕ) (w : Along) (goal : Goal) (h : Handle) (a : Answer) → (let at = not_created w goal h a in Has load at.0.walk at.1)
  beaten load w Lookup h a = tt
  beaten load w Intern h a = tt
  beaten load w InternWait h a = tt

  changing : (load : ℕ) (walk : Walk) (change : Change) (h : Handle) (word : ℕ) → Has load walk (count_found change h word)
  changing load walk Drop h word = either_way (Has load walk) (holds_of word == 65535) (stage.Answered answer.Permanent) (stage.Handle (handle.Exchange Drop word)) tt tt
  changing load walk Permanent h word = tt
  changing load walk Kill h word = either_way (Has load walk) (is_live h word) (stage.Handle (handle.Exchange Kill word)) (stage.Answered answer.Stale) tt tt

  read_on : (load : ℕ) (walk : Walk) (kind : Kind) (a : Answer) → Has load walk (read_all kind a)
  read_on load walk Counted a = tt
  read_on load walk Weak a = tt

  reading : (load : ℕ) (walk : Walk) (kind : Kind) (at len : ℕ) → Has load walk (reads_from kind at len)
  reading load walk kind at len = either_way (Has load walk) (nat_lt at (words_of len)) (stage.Read (read.Text at len)) (read_all kind (answer.Text len)) tt
      (read_on load walk kind (answer.Text len))

  leaving_for : (load : ℕ) (w : Along) (after : Then) → (let at = left_for w after in Has load at.0.walk at.1)
  leaving_for load w (next.Answer a) = tt
  leaving_for load w next.TryAgain = tt

  module _ (now load : ℕ) (w : Along) (place_is : now ≡ length log) where
    loaded : (word : ℕ) → IsMadeBy m m' (plan_at q w (stage.Find find.LoadHead)) → IsFound m (plan_at q w (stage.Find find.LoadHead)) word → Kept now (record w.walk { head = word })
    loaded word made is = subst (λ head. HeadKept m' i w.walk.row w.walk.bucket now head (IsOnHome t w.walk.row q.text) (IsTextLocked t q.text) (log ++ more)) (sym is)
        (kept_from_load m m' i w.walk.row w.walk.bucket now log more (IsOnHome t w.walk.row q.text) (IsTextLocked t q.text) made place_is)

    -- finding the head
    find_headed : (s : FindStage) (word : ℕ) → IsMadeBy m m' (plan_at q w (stage.Find s)) → IsFound m (plan_at q w (stage.Find s)) word →
        Has (loaded_at (plan_at q w (stage.Find s)) now load) (next_at q w (stage.Find s) word).0.walk (next_at q w (stage.Find s) word).1
    find_headed (find.Enter s) word made is = tt
    find_headed find.LoadLevel word made is = tt
    find_headed find.LoadHead word made is =
        where_it_is (λ (o : Option FindStage). let at = found q w (record w.walk { head = word }, o) in Has now at.0.walk at.1) (is_redirected word) (Some find.LoadNewLevel) None
        (λ redirected. tt) (λ plain. coming now (record w.walk { head = word }) w (loaded word made is) word (first_of word))
    find_headed find.LoadNewLevel word made is = tt
    find_headed find.LoadNewHead word made is = coming now (record w.walk { head = word }) w (loaded word made is) word (first_of word)

    -- at a node
    node_headed : (s : NodeStage) (word : ℕ) → IsMadeBy m m' (plan_at q w (stage.Node s)) → WalkHeaded t m i load log q.text w.walk (stage.Node s) →
        Has (loaded_at (plan_at q w (stage.Node s)) now load) (next_at q w (stage.Node s) word).0.walk (next_at q w (stage.Node s) word).1
    node_headed (node.Meta x) word made h =
        let k : Kept load w.walk = kept_by_own m m' i _ log more w.walk.row w.walk.bucket load w.walk.head (IsOnHome t w.walk.row q.text) (IsTextLocked t q.text) made (λ is. absurd (cc)) h in
        either_way (λ n. Has load w.walk (stage.Node n)) (word == meta_word (meta_of q.seed q.text)) (compares_from q.text x 0) (node.Link x) (comparing load w.walk k x 0) k
    node_headed (node.Text x at) word made h =
        let k : Kept load w.walk = kept_by_own m m' i _ log more w.walk.row w.walk.bucket load w.walk.head (IsOnHome t w.walk.row q.text) (IsTextLocked t q.text) made (λ is. absurd (cc)) h in
        either_way (λ n. Has load w.walk (stage.Node n)) (word == word_at q.text at) (compares_from q.text x (at + 1)) (node.Link x) (comparing load w.walk k x (at + 1)) k
    node_headed (node.Count x) word made h =
        let k : Kept load w.walk = kept_by_own m m' i _ log more w.walk.row w.walk.bucket load w.walk.head (IsOnHome t w.walk.row q.text) (IsTextLocked t q.text) made (λ is. absurd (cc)) h in
        either_way (Has load w.walk) (holds_of word == 0) (stage.Node (node.Link x)) (matches q w q.kind x word) k (matching load w.walk w q.kind x word)
    node_headed (node.Link x) word made h =
        let k : Kept load w.walk = kept_by_own m m' i _ log more w.walk.row w.walk.bucket load w.walk.head (IsOnHome t w.walk.row q.text) (IsTextLocked t q.text) made (λ is. absurd (cc)) h in
        coming load (passes w.walk) w (record { early = k.early; says = k.says; turned = k.turned }) w.walk.head (node_of word)
    node_headed (node.Take x count) word made h =
        either_way (Has load w.walk) (word == count) (leaves_with w.kept (met Counted q.goal (handle_at x count))) (loses_with q.goal w.kept answer.Again)
        (leaving load w.walk w.kept (met Counted q.goal (handle_at x count))) (losing load w.walk q.goal w.kept answer.Again)

    -- making an entry
    insert_headed : (s : InsertStage) (word : ℕ) → IsMadeBy m m' (plan_at q w (stage.Insert s)) → WalkHeaded t m i load log q.text w.walk (stage.Insert s) →
        Has (loaded_at (plan_at q w (stage.Insert s)) now load) (next_at q w (stage.Insert s) word).0.walk (next_at q w (stage.Insert s) word).1
    insert_headed (insert.Claim slot tried) word made h =
        let k : Kept load w.walk = kept_by_own m m' i _ log more w.walk.row w.walk.bucket load w.walk.head (IsOnHome t w.walk.row q.text) (IsTextLocked t q.text) made (λ is. absurd (cc)) h in
        either_way (λ (at : Along × CallStage). Has load at.0.walk at.1) (word == 0) (record w { cursor = next_slot q.shape.slots slot }, stage.Insert (insert.OwnCount slot))
        (w, not_claimed q w slot tried) k
        (not_claiming load w slot tried k)
    insert_headed (insert.OwnCount slot) word made h = kept_by_own m m' i _ log more w.walk.row w.walk.bucket load w.walk.head (IsOnHome t w.walk.row q.text) (IsTextLocked t q.text) made (λ is. absurd (cc)) h
    insert_headed (insert.PutMeta k) word made h = kept_by_own m m' i _ log more w.walk.row w.walk.bucket load w.walk.head (IsOnHome t w.walk.row q.text) (IsTextLocked t q.text) made (λ is. absurd (cc)) h
    insert_headed (insert.PutText k at) word made h = kept_by_own m m' i _ log more w.walk.row w.walk.bucket load w.walk.head (IsOnHome t w.walk.row q.text) (IsTextLocked t q.text) made (λ is. absurd (cc)) h
    insert_headed (insert.PutLink k) word made h = kept_by_own m m' i _ log more w.walk.row w.walk.bucket load w.walk.head (IsOnHome t w.walk.row q.text) (IsTextLocked t q.text) made (λ is. absurd (cc)) h
    insert_headed (insert.PutCount k) word made h = kept_by_own m m' i _ log more w.walk.row w.walk.bucket load w.walk.head (IsOnHome t w.walk.row q.text) (IsTextLocked t q.text) made (λ is. absurd (cc)) h
    insert_headed (insert.Create k) word made h =
        either_way (λ (at : Along × CallStage). Has load at.0.walk at.1) (word == w.walk.head) (record w { kept = None }, leaves_with None (answer.Created k))
        (not_created w q.goal k (lost_head word)) tt
        (beaten load w q.goal k (lost_head word))

    -- a try call over its own step
    pub call_headed : (s : CallStage) (word : ℕ) → IsMadeBy m m' (plan_at q w s) → IsFound m (plan_at q w s) word → WalkHeaded t m i load log q.text w.walk s →
        Has (loaded_at (plan_at q w s) now load) (next_at q w s word).0.walk (next_at q w s word).1
    call_headed (stage.Find s) word made is h = find_headed s word made is
    call_headed (stage.Node s) word made is h = node_headed s word made h
    call_headed (stage.Insert s) word made is h = insert_headed s word made h
    call_headed (stage.Answered a) word made is h = tt
    call_headed (stage.Draw draw.Load) word made is h = either_way (Has load w.walk) (nat_le q.shape.seats word) (stage.Answered answer.SeatsSpent) (stage.Draw draw.Add) tt tt
    call_headed (stage.Draw draw.Add) word made is h = tt
    call_headed (stage.Leave (leave.UndoCount k after)) word made is h = tt
    call_headed (stage.Leave (leave.UndoClaim slot after)) word made is h = tt
    call_headed (stage.Leave (leave.Close after)) word made is h = leaving_for load w after
    call_headed (stage.Handle (handle.Count change)) word made is h = changing load w.walk change q.handle word
    call_headed (stage.Handle (handle.Exchange change count)) word made is h = tt
    call_headed (stage.Read (read.Enter s)) word made is h = tt
    call_headed (stage.Read read.Count) word made is h = either_way (Has load w.walk) (is_live q.handle word) (stage.Read read.Meta) (leaves_with None answer.Stale) tt tt
    call_headed (stage.Read read.Meta) word made is h = reading load w.walk q.kind 0 (length_in word)
    call_headed (stage.Read (read.Text at len)) word made is h = reading load w.walk q.kind (at + 1) len
