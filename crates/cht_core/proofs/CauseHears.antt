-- What a machine knows as it finds a word, from what the words show and what its seat knows and owes.
use Rattle.std.proofs.Common.{◌≡◌, ℕ, true, false, List, [], ◌∷◌, Option, Some, None, sym, ap, subst, ◌∙◌}
use Rattle.std.proofs.Common.{inl, inr}
use Rattle.chain_core.specs.Nodes.{On}
use Rattle.chain_core.specs.Path.{IsPath}
use Rattle.text_words.specs.Hash.{hash_of}
use Rattle.marked_word.specs.Head.{is_redirected, first_of}
use Rattle.marked_word.specs.Link.{node_of}
use Rattle.table_shape.specs.declared.place.Place.TheVariants as place
use Rattle.intern_log.specs.declared.event.Event.{Event}
use Rattle.intern_log.specs.Now.{Now, owner_of}
use Rattle.atomic_step.specs.declared.count.Change.TheVariants as change
use Rattle.atomic_step.specs.declared.plan.Plan.{Plan}
use Rattle.atomic_step.specs.declared.plan.Plan.TheVariants as plan
use Rattle.call_machine.specs.declared.begin.BeginStage.{BeginStage}
use Rattle.call_machine.specs.declared.begin.BeginStage.TheVariants as begin
use Rattle.call_machine.specs.declared.begin.Beginning.{Beginning}
use Rattle.call_machine.specs.declared.find.FindStage.TheVariants as find
use Rattle.call_machine.specs.declared.handle.HandleStage.TheVariants as handle
use Rattle.call_machine.specs.declared.insert.InsertStage.TheVariants as insert
use Rattle.call_machine.specs.declared.machine.Machine.TheVariants as machine
use Rattle.call_machine.specs.declared.node.NodeStage.TheVariants as node
use Rattle.call_machine.specs.declared.stage.Along.{Along}
use Rattle.call_machine.specs.declared.stage.Asked.{Asked}
use Rattle.call_machine.specs.declared.stage.CallStage.{CallStage}
use Rattle.call_machine.specs.declared.stage.CallStage.TheVariants as stage
use Rattle.call_machine.specs.Calls.{plan_at}
use Rattle.call_machine.specs.WholeMachine.{has_lock_at}
use Rattle.cht_core.specs.declared.seat.Seat.TheVariants as doing
use Rattle.cht_core.specs.declared.table.Table.{Table}
use Rattle.cht_core.specs.Causes.{now_in, BeginHears}
use Rattle.cht_core.specs.CauseCalls.{IsAtHome, IsLateAlone, HearsHead, CallHears}
use Rattle.cht_core.specs.Flow.{Flow, IsUsed, ComesTo}
use Rattle.cht_core.specs.Stage.{bucket_in}
use Rattle.cht_core.specs.HeadKept.{WalkHeaded}
use Rattle.cht_core.specs.KnowsCall.{KnowsStage, IsAtHead}
use Rattle.cht_core.specs.Memory.{Memory, found, links}
use Rattle.cht_core.specs.Owes.{Owes}
use Rattle.cht_core.specs.Past.{Past, past_of}
use Rattle.cht_core.specs.Search.{Walking}
use Rattle.cht_core.specs.TableState.{IsTable}
use Rattle.cht_core.proofs.CauseHeaded.{home_is}
use Rattle.cht_core.proofs.FindStages.{head_loaded, plain_comes, new_head_comes}
use Rattle.cht_core.proofs.Stages.{comes_used, row_of_used}
use Rattle.cht_core.proofs.Walks.{none_ahead, begins_walk, passes_node}

-- the word is the one that the next step of a plan finds
abbrev pub IsFound : Memory → Plan → ℕ → Type 0
IsFound m (plan.Step s) word = word ≡ found s m
IsFound m (plan.Answered a) word = Unit {0}

-- a walk that is at its end has no earlier entry of its text
late_at_end : (m : Memory) (n : Now) (f : Flow) (i : ℕ) (text : List ℕ) (hash row load : ℕ) (first : Option ℕ) (passed : List ℕ) (o : Option ℕ) →
    Walking m n f i text hash row load first passed o → o ≡ None → IsLateAlone n text load
late_at_end m n f i text hash row load first passed o walking end = λ e is. elim (walking.searched.live e is) [
  | inl late ↦ late
  | inr on ↦ absurd (subst (λ l. On e.handle.slot l) (none_ahead (links m) walking.ahead (subst (λ x. IsPath (links m) x walking.ahead) end walking.path)) on)
]

module _ (t : Table) (m : Memory) (f : Flow) (i load : ℕ) (passed : List ℕ) (log : List Event) (table : IsTable t m (past_of t.shape.min_level log) f) where
  abbrev Now' : Past
  Now' = past_of t.shape.min_level log

  module _ (q : Asked) (w : Along) (seeds : q.seed ≡ (now_in t log).seed) (kinds : q.kind ≡ t.kind) where
    at_home : ComesTo (now_in t log) f (hash_of q.seed q.text) w.walk.row → w.walk.bucket ≡ bucket_in w.walk.row (hash_of q.seed q.text) → IsAtHome (now_in t log) f q.text w.walk
    at_home to at =
        let used : IsUsed (now_in t log) f w.walk.row w.walk.bucket =
        subst (IsUsed (now_in t log) f w.walk.row) (sym at) (comes_used (now_in t log) f (hash_of q.seed q.text) w.walk.row table.chains.within to) in
        (used, row_of_used (now_in t log) f w.walk.row w.walk.bucket table.chains.within table.whole used, home_is t log q w.walk.row w.walk.bucket seeds at)

    head_hears : (word : ℕ) → word ≡ m (place.Head w.walk.row w.walk.bucket) → IsAtHead (now_in t log) f i (hash_of q.seed q.text) w.walk → ComesTo (now_in t log) f (hash_of q.seed q.text) w.walk.row
        → HearsHead Now' f q.text w.walk word
    head_hears word is h to =
        let hash = hash_of q.seed q.text in
        let loaded = head_loaded t m Now' f table i hash w.walk to h.3 in
        let path : IsPath (links m) (first_of word) (f.chain w.walk.row (bucket_in w.walk.row hash)) =
        subst (λ (b : ℕ). IsPath (links m) (first_of word) (f.chain w.walk.row b)) h.3
        (subst (λ (x : ℕ). IsPath (links m) (first_of x) (f.chain w.walk.row w.walk.bucket)) (sym is) loaded.1) in
        let walking : Walking m (now_in t log) f i q.text hash w.walk.row (now_in t log).place (first_of word) [] (first_of word) =
        begins_walk t m Now' f table i h.0 q.text hash w.walk.row (first_of word) h.1 (ap (λ (seed : ℕ). hash_of seed q.text) seeds) h.2 to path in
        (at_home to h.3, λ end. late_at_end m (now_in t log) f i q.text hash w.walk.row (now_in t log).place (first_of word) [] (first_of word) walking end)

    -- the head of a walk that is not redirected is one to which callers come
    comes_to_plain : (word : ℕ) → word ≡ m (place.Head w.walk.row w.walk.bucket) → IsAtHead (now_in t log) f i (hash_of q.seed q.text) w.walk → is_redirected word ≡ false
        → ComesTo (now_in t log) f (hash_of q.seed q.text) w.walk.row
    comes_to_plain word is h plain = plain_comes t m Now' f table i (hash_of q.seed q.text) w.walk h (ap is_redirected (sym is) ∙ plain)

    -- of a try call
    pub call_hears : (s : CallStage) (word : ℕ) → KnowsStage m Now' f i load passed q w s → WalkHeaded t m i load log q.text w.walk s → IsFound m (plan_at q w s) word →
        CallHears t Now' f i load log q w s word
    call_hears (stage.Find find.LoadHead) word knows head is = λ plain. head_hears word is knows.0 (comes_to_plain word is knows.0 plain)
    call_hears (stage.Find find.LoadNewHead) word knows head is =
        head_hears word is (knows.0.0, knows.0.1, knows.0.2, knows.0.3) (new_head_comes t m Now' f table i (hash_of q.seed q.text) w.walk knows.0)
    call_hears (stage.Find find.LoadLevel) word knows head is = tt
    call_hears (stage.Find find.LoadNewLevel) word knows head is = tt
    call_hears (stage.Find (find.Enter x)) word knows head is = tt
    call_hears (stage.Node (node.Count x)) word knows head is = knows.0.1
    call_hears (stage.Node (node.Link x)) word knows head is =
        let hash = hash_of q.seed q.text in
        let walking = passes_node t m Now' f table i q.text hash w.walk.row load (first_of w.walk.head) passed x knows.0.1 knows.0.0.walking in
        λ end. late_at_end m (now_in t log) f i q.text hash w.walk.row load (first_of w.walk.head) (x ∷ passed) (links m x) walking (ap node_of (sym is) ∙ end)
    call_hears (stage.Node (node.Meta x)) word knows head is = tt
    call_hears (stage.Node (node.Text x at)) word knows head is = tt
    call_hears (stage.Node (node.Take x count)) word knows head is = tt
    call_hears (stage.Insert (insert.Create h)) word knows head is =
        let at : IsAtHead (now_in t log) f i (hash_of q.seed q.text) w.walk = (knows.0.searched.section, knows.0.searched.inside, knows.0.searched.routed, knows.0.bucket) in (
          λ plain. at_home (comes_to_plain word is at plain) knows.0.bucket,
          λ redirected. elim (head.turned (ap is_redirected (sym is) ∙ redirected)) [
            | inl marked ↦ absurd (let clash : false ≡ true = sym knows.0.plain ∙ marked in cc)
            | inr since ↦ since
          ],
          elim (head.says knows.0.open_head) [ inl same ↦ inl (is ∙ same) | inr since ↦ inr since ],
        )
    call_hears (stage.Insert (insert.Claim slot tried)) word knows head is = tt
    call_hears (stage.Insert (insert.OwnCount slot)) word knows head is = tt
    call_hears (stage.Insert (insert.PutMeta h)) word knows head is = tt
    call_hears (stage.Insert (insert.PutText h at)) word knows head is = tt
    call_hears (stage.Insert (insert.PutLink h)) word knows head is = tt
    call_hears (stage.Insert (insert.PutCount h)) word knows head is = tt
    call_hears (stage.Handle (handle.Exchange change.Kill count)) word knows head is = sym kinds ∙ knows.1.0
    call_hears (stage.Handle (handle.Exchange change.Drop count)) word knows head is = tt
    call_hears (stage.Handle (handle.Exchange change.Permanent count)) word knows head is = tt
    call_hears (stage.Handle (handle.Count way)) word knows head is = tt
    call_hears (stage.Answered a) word knows head is = tt
    call_hears (stage.Draw x) word knows head is = tt
    call_hears (stage.Leave x) word knows head is = tt
    call_hears (stage.Read x) word knows head is = tt

  -- of a call that begins a work: it has not the resize lock
  pub begin_hears : (b : Beginning) → Owes Now' i (doing.Running (machine.Begin b)) → BeginHears Now' i b.stage
  begin_hears b owes = go b.stage owes.owner
    where
      go : (s : BeginStage) → (owner_of Now'.now.resizing ≡ Some i → has_lock_at s ≡ true) → BeginHears Now' i s
      go (begin.TakeResizeLock work) owner = λ mine. (let clash : false ≡ true = owner mine in cc)
      go (begin.LoadCounter work) owner = tt
      go (begin.LoadLevel d) owner = tt
      go (begin.GiveResizeLock a) owner = tt
      go (begin.Grace g s) owner = tt
      go (begin.Answered a l) owner = tt
