-- Where nobody else is there, what a walk has passed and what is ahead of it stay the whole chain, up to its end.
use Rattle.std.proofs.Common.{◌≡◌, ◌↔◌, ℕ, ◌+◌, ◌==◌, true, false, cond, List, [], ◌∷◌, length, Option, Some, None, inl, inr, refl, sym, ap, subst, ◌∙◌, arith}
use Rattle.chain_core.specs.Nodes.{On, Once}
use Rattle.chain_core.specs.Path.{IsPath}
use Rattle.chain_core.proofs.Ways.{path_one, path_begins}
use Rattle.text_words.specs.Hash.{hash_of}
use Rattle.text_words.specs.Words.{word_at}
use Rattle.marked_word.specs.Head.{is_redirected, first_of}
use Rattle.marked_word.specs.Link.{node_of}
use Rattle.marked_word.specs.Meta.{meta_word}
use Rattle.table_shape.specs.declared.place.Place.TheVariants as place
use Rattle.intern_log.specs.declared.event.Kind.{Kind}
use Rattle.intern_log.specs.declared.event.Kind.TheVariants.{Counted, Weak}
use Rattle.intern_log.specs.declared.event.What.TheVariants as what
use Rattle.intern_log.specs.Buckets.{bucket_of}
use Rattle.intern_log.specs.Now.{Now}
use Rattle.atomic_step.specs.Count.{holds_of, handle_at}
use Rattle.atomic_step.specs.declared.access.Deed.TheVariants as deed
use Rattle.atomic_step.specs.declared.plan.Plan.TheVariants as plan
use Rattle.atomic_step.specs.declared.step.Step.{Step}
use Rattle.atomic_step.specs.declared.step.Step.TheVariants as step
use Rattle.atomic_step.specs.Event.{event_of, found_entry}
use Rattle.atomic_step.specs.Step.{access_of}
use Rattle.atomic_step.proofs.Choices.{where_it_is, either_way}
use Rattle.call_machine.specs.declared.find.FindStage.{FindStage}
use Rattle.call_machine.specs.declared.find.FindStage.TheVariants as find
use Rattle.call_machine.specs.declared.machine.Machine.{Machine}
use Rattle.call_machine.specs.declared.machine.Machine.TheVariants as machine
use Rattle.call_machine.specs.declared.node.NodeStage.{NodeStage}
use Rattle.call_machine.specs.declared.node.NodeStage.TheVariants as node
use Rattle.call_machine.specs.declared.stage.Along.{Along}
use Rattle.call_machine.specs.declared.stage.Asked.{Asked}
use Rattle.call_machine.specs.declared.stage.CallStage.{CallStage}
use Rattle.call_machine.specs.declared.stage.CallStage.TheVariants as stage
use Rattle.call_machine.specs.Calls.{found as finds_at, turn_at, plan_at, next_at}
use Rattle.call_machine.specs.Machine.{plan_of, got_of, text_of}
use Rattle.call_machine.specs.Node.{compares_from, comes_to, matches, passes}
use Rattle.call_machine.specs.Sought.{meta_of, has_word}
use Rattle.call_machine.specs.WholeMachine.{has_lock}
use Rattle.call_machine.proofs.Machines.{plan_is, got_is}
use Rattle.call_machine.proofs.Nodes.{few_slots}
use Rattle.cht_core.specs.declared.table.Table.{Table}
use Rattle.cht_core.specs.Flow.{Flow}
use Rattle.cht_core.specs.KnowsCall.{IsAtHead, AtNode, KnowsStage}
use Rattle.cht_core.specs.Memory.{Memory, IsMade, found, links}
use Rattle.cht_core.specs.Past.{Past}
use Rattle.cht_core.specs.Shows.{IsOfBucket}
use Rattle.cht_core.specs.Stage.{bucket_in}
use Rattle.cht_core.specs.TableState.{IsTable, IsSettled}
use Rattle.cht_core.specs.View.{KnowsMachine, passed_after, seed_in}
use Rattle.cht_core.proofs.Basics.{after_load}
use Rattle.cht_core.proofs.LooksGrow.{linked_few}
use Rattle.cht_core.proofs.Routes.{free_row}
use Rattle.cht_core.proofs.ShowsLog.{shows_log}
use Rattle.cht_core.proofs.Stages.{bucket_below}
use Rattle.cht_core.proofs.Turns.{IfMakes, if_planned}
use Rattle.cht_core.proofs.Walks.{held_inside, none_ahead}
use Rattle.cht_run.specs.ChainLengths.{linked_beside}
use Rattle.cht_run.specs.Covers.{Covers, StageCovers, MachineCovers, StageEnds, MachineEnds}
use Rattle.cht_run.proofs.ChainLengths.{chain_counts}
use Rattle.cht_run.proofs.OffNodes.{IsDone, off_covers, off_next, end_off, matches_off}

module _ (t : Table) (m : Memory) (p : Past) (f : Flow) (i load : ℕ) (passed : List ℕ) (table : IsTable t m p f) where
  module _ (q : Asked) (w : Along) (seeded : q.seed ≡ p.now.seed) (free : p.now.resizing ≡ None) where
    abbrev Home : ℕ
    Home = bucket_of p.now.seed p.now.level q.text

    -- nobody replaces a row
    settled : IsSettled p.now
    settled r is = let clash : None ≡ Some r = sym free ∙ is in absurd (cc)

    -- the list is the chain of the bucket of the text
    abbrev IsChain : List ℕ → Type 0
    IsChain nodes = Once nodes × ((s : ℕ) → On s nodes ↔ IsOfBucket p.now Home s)

    length_is : (nodes : List ℕ) → IsChain nodes → linked_beside t.shape.slots p.now q.text ≡ length nodes
    length_is nodes chain = chain_counts t.shape.slots p.now q.text nodes chain.0
        (λ s on. let of = (chain.1 s).0 on in (held_inside t m p f table 0 s (inl (of.0, of.1, of.2, of.3)), of))
        (λ s of. (chain.1 s).1 of)

    -- AT THE HEAD

    module _ (at : IsAtHead p.now f i (hash_of q.seed q.text) w.walk) where
      row_is : w.walk.row ≡ p.now.level
      row_is = free_row t m p f i (hash_of q.seed q.text) w.walk.row at.0 table at.1 at.2 free

      bucket_is : w.walk.bucket ≡ Home
      bucket_is = at.3 ∙ ap (λ row. bucket_in row (hash_of q.seed q.text)) row_is ∙ ap (λ seed. bucket_in p.now.level (hash_of seed q.text)) seeded

      -- the path from the head that it finds is the chain
      from_head : (nodes : List ℕ) × IsPath (links m) (first_of (m (place.Head w.walk.row w.walk.bucket))) nodes × IsChain nodes
      from_head =
          let (nodes, path, once, all) = (shows_log t m p f table).chains settled Home (bucket_below p.now.level (hash_of p.now.seed q.text)) in
          (nodes, subst (λ (x : ℕ). IsPath (links m) (first_of (m (place.Head x w.walk.bucket))) nodes) (sym row_is) (subst (λ (x : ℕ). IsPath (links m) (first_of (m (place.Head p.now.level x))) nodes) (sym bucket_is) path), (once, all))

      first_covers : (x : ℕ) → first_of (m (place.Head w.walk.row w.walk.bucket)) ≡ Some x → Covers m p.now q.text [] x
      first_covers x is ahead path s =
          let same : ahead ≡ from_head.0 = path_one (links m) (Some x) from_head.0 ahead (subst (λ o. IsPath (links m) o from_head.0) is from_head.1) path in (
            (λ on. elim on [ inl none ↦ absurd none | inr here ↦ (from_head.2.1 s).0 (subst (On s) same here) ]),
            (λ of. inr (subst (On s) (sym same) ((from_head.2.1 s).1 of))),
          )

      none_linked : first_of (m (place.Head w.walk.row w.walk.bucket)) ≡ None → 0 ≡ linked_beside t.shape.slots p.now q.text
      none_linked is =
          let none : from_head.0 ≡ [] = none_ahead (links m) from_head.0 (subst (λ o. IsPath (links m) o from_head.0) is from_head.1) in
          sym (length_is from_head.0 from_head.2 ∙ ap (λ (l : List ℕ). length l) none)

    -- AT A NODE

    next_covers : (x next : ℕ) → node_of (m (place.Link x)) ≡ Some next → Covers m p.now q.text passed x → Covers m p.now q.text (x ∷ passed) next
    next_covers x next is covers ahead path s =
        let before = covers (x ∷ ahead) (refl, subst (λ o. IsPath (links m) o ahead) (sym is) path) s in (
          (λ on. elim on [ inl (inl here) ↦ before.0 (inr (inl here)) | inl (inr was) ↦ before.0 (inl was) | inr later ↦ before.0 (inr (inr later)) ]),
          (λ of. elim (before.1 of) [ inl was ↦ inl (inr was) | inr (inl here) ↦ inl (inl here) | inr (inr later) ↦ inr later ]),
        )

    -- the last node of its chain
    module _ (x : ℕ) (is : node_of (m (place.Link x)) ≡ None) (covers : Covers m p.now q.text passed x) (at : AtNode m p.now f i load passed q w x) where
      last_once : Once (x ∷ passed)
      last_once = ((λ on. at.walking.searched.apart x on (path_begins (links m) x at.walking.ahead at.walking.path)), at.walking.searched.once)

      last_all : (s : ℕ) → On s (x ∷ passed) ↔ IsOfBucket p.now Home s
      last_all s =
          let before = covers (x ∷ []) (refl, is) s in (
            (λ on. elim on [ inl here ↦ before.0 (inr (inl here)) | inr was ↦ before.0 (inl was) ]),
            (λ of. elim (before.1 of) [ inl was ↦ inr was | inr (inl here) ↦ inl here | inr (inr none) ↦ absurd none ]),
          )

      last_counts : (passes w.walk).passed ≡ linked_beside t.shape.slots p.now q.text
      last_counts =
          let count = length_is (x ∷ passed) (last_once, last_all) in
          let few = linked_few t m p f table (x ∷ passed) last_once (λ s on. let of = (last_all s).0 on in (of.0, of.1, of.2, of.3)) in
          let small = few_slots t.shape table.shape in
          let counted = at.counted in
          omega (arith, count, few, small, counted)

  -- A STEP

  module _ (m' : Memory) (n' : Now) (q : Asked) (w : Along) (seeded : q.seed ≡ p.now.seed) (free : p.now.resizing ≡ None) where
    -- what is known after a step
    abbrev After : Step → (ℕ → Along × CallStage) → Type 0
    After s next = IsMade s m m' → (event_of q.text s (found s m) ≡ None → n' ≡ p.now) → StageCovers m' n' q.text (passed_after s passed) (next (found s m)).1

    -- a load without an event changes nothing
    unchanged : (s : Step) (text nodes : List ℕ) (x : CallStage) → (access_of s).deed ≡ deed.Load → IsMade s m m' → n' ≡ p.now → StageCovers m p.now text nodes x → StageCovers m' n' text nodes x
    unchanged s text nodes x loads made same covers =
        subst (λ (y : Memory). StageCovers y n' text nodes x) (sym (after_load s m m' loads made)) (subst (λ (y : Now). StageCovers m y text nodes x) (sym same) covers)

    -- where a head leads
    heads_to : (word : ℕ) (a : Along) → ((x : ℕ) → first_of word ≡ Some x → Covers m p.now q.text passed x) → StageCovers m p.now q.text passed (comes_to q a word (first_of word))
    heads_to word a covers = go (first_of word) refl
      where
        go : (o : Option ℕ) → first_of word ≡ o → StageCovers m p.now q.text passed (comes_to q a word o)
        go None is = off_covers m p.now q.text passed _ (end_off a.kept a.cursor word q.goal)
        go (Some x) is = covers x is

    links_to : (a : Along) (x : ℕ) → Covers m p.now q.text passed x → StageCovers m p.now q.text (x ∷ passed) (comes_to q a w.walk.head (node_of (m (place.Link x))))
    links_to a x covers = go (node_of (m (place.Link x))) refl
      where
        go : (o : Option ℕ) → node_of (m (place.Link x)) ≡ o → StageCovers m p.now q.text (x ∷ passed) (comes_to q a w.walk.head o)
        go None is = off_covers m p.now q.text (x ∷ passed) _ (end_off a.kept a.cursor w.walk.head q.goal)
        go (Some next) is = next_covers q w seeded free x next is covers

    at_first : IsAtHead p.now f i (hash_of q.seed q.text) w.walk → passed ≡ [] → (x : ℕ) → first_of (m (place.Head w.walk.row w.walk.bucket)) ≡ Some x → Covers m p.now q.text passed x
    at_first at none x is = subst (λ l. Covers m p.now q.text l x) (sym none) (first_covers q w seeded free at x is)

    compares : (x at : ℕ) → Covers m p.now q.text passed x → StageCovers m p.now q.text passed (stage.Node (compares_from q.text x at))
    compares x at covers = either_way (λ n. StageCovers m p.now q.text passed (stage.Node n)) (has_word q.text at) (node.Text x at) (node.Count x) covers covers

    -- a count without a hold is no event
    none_found : (kind : Kind) (x word : ℕ) → (holds_of word == 0) ≡ true → found_entry q.text kind x word ≡ None
    none_found Counted x word none = refl
    none_found Weak x word none = ap (λ b. cond b None (Some (what.Found q.text (handle_at x word)))) none

    done : (s : CallStage) → IsDone s → (stp : Step) → StageCovers m' n' q.text (passed_after stp passed) (next_at q w s (found stp m)).1
    done s is stp = off_covers m' n' q.text (passed_after stp passed) _ (off_next q w s (found stp m) is)

    finds : (s : FindStage) → KnowsStage m p f i load passed q w (stage.Find s) → IfMakes (λ does. After does.step does.next) (turn_at q w (stage.Find s))
    finds (find.Enter s) knows = λ made calm. tt
    finds find.LoadLevel knows = λ made calm. tt
    finds find.LoadHead knows = λ made calm.
        let s = step.LoadHead w.walk.row w.walk.bucket in
        let word = m (place.Head w.walk.row w.walk.bucket) in
        where_it_is (λ (o : Option FindStage). StageCovers m' n' q.text passed (finds_at q w (record w.walk { head = word }, o)).1) (is_redirected word) (Some find.LoadNewLevel) None (λ redirected. tt)
        (λ plain. unchanged s q.text passed _ refl made (calm refl) (heads_to word (record w { walk = record w.walk { head = word } }) (at_first knows.0 knows.2)))
    finds find.LoadNewLevel knows = λ made calm. tt
    finds find.LoadNewHead knows = λ made calm.
        let s = step.LoadHead w.walk.row w.walk.bucket in
        let word = m (place.Head w.walk.row w.walk.bucket) in
        unchanged s q.text passed _ refl made (calm refl) (heads_to word (record w { walk = record w.walk { head = word } }) (at_first (knows.0.0, knows.0.1, knows.0.2, knows.0.3) knows.2))

    nodes : (s : NodeStage) → StageCovers m p.now q.text passed (stage.Node s) → IfMakes (λ does. After does.step does.next) (turn_at q w (stage.Node s))
    nodes (node.Meta x) covers = λ made calm. unchanged (step.LoadMeta x) q.text passed (stage.Node (cond (m (place.Meta x) == meta_word (meta_of q.seed q.text)) (compares_from q.text x 0) (node.Link x))) refl made (calm refl)
        (either_way (λ n. StageCovers m p.now q.text passed (stage.Node n)) (m (place.Meta x) == meta_word (meta_of q.seed q.text)) (compares_from q.text x 0) (node.Link x) (compares x 0 covers) covers)
    nodes (node.Text x at) covers = λ made calm. unchanged (step.LoadText x at) q.text passed (stage.Node (cond (m (place.Text x at) == word_at q.text at) (compares_from q.text x (at + 1)) (node.Link x))) refl made (calm refl)
        (either_way (λ n. StageCovers m p.now q.text passed (stage.Node n)) (m (place.Text x at) == word_at q.text at) (compares_from q.text x (at + 1)) (node.Link x) (compares x (at + 1) covers) covers)
    nodes (node.Count x) covers = λ made calm.
        let word = m (place.Count x) in
        where_it_is (λ s. StageCovers m' n' q.text passed s) (holds_of word == 0) (stage.Node (node.Link x)) (matches q w q.kind x word)
        (λ none. unchanged (step.SeeEntry q.kind x) q.text passed (stage.Node (node.Link x)) refl made (calm (none_found q.kind x word none)) covers)
        (λ some. off_covers m' n' q.text passed _ (matches_off q w q.kind x word))
    nodes (node.Link x) covers = λ made calm. unchanged (step.LoadLink x) q.text (x ∷ passed) _ refl made (calm refl) (links_to (record w { walk = passes w.walk }) x covers)
    nodes (node.Take x count) covers = λ made calm. done (stage.Node (node.Take x count)) tt (step.TakeEntry x count)

    stage_steps : (s : CallStage) (stp : Step) → plan_at q w s ≡ plan.Step stp → IsMade stp m m' → (event_of q.text stp (found stp m) ≡ None → n' ≡ p.now) → KnowsStage m p f i load passed q w s → StageCovers m p.now q.text passed s →
        StageCovers m' n' q.text (passed_after stp passed) (next_at q w s (found stp m)).1
    stage_steps (stage.Find s) stp planned made calm knows covers = if_planned After (w, stage.Find s) (turn_at q w (stage.Find s)) stp (finds s knows) planned made calm
    stage_steps (stage.Node s) stp planned made calm knows covers = if_planned After (w, stage.Node s) (turn_at q w (stage.Node s)) stp (nodes s covers) planned made calm
    stage_steps (stage.Answered a) stp planned made calm knows covers = done (stage.Answered a) tt stp
    stage_steps (stage.Draw s) stp planned made calm knows covers = done (stage.Draw s) tt stp
    stage_steps (stage.Insert s) stp planned made calm knows covers = done (stage.Insert s) tt stp
    stage_steps (stage.Leave s) stp planned made calm knows covers = done (stage.Leave s) tt stp
    stage_steps (stage.Handle s) stp planned made calm knows covers = done (stage.Handle s) tt stp
    stage_steps (stage.Read s) stp planned made calm knows covers = done (stage.Read s) tt stp

    -- THE END

    stage_ends : (s : CallStage) (stp : Step) → plan_at q w s ≡ plan.Step stp → KnowsStage m p f i load passed q w s → StageCovers m p.now q.text passed s → StageEnds t.shape.slots p.now q w s (found stp m)
    stage_ends (stage.Find find.LoadHead) stp planned knows covers =
        let same : step.LoadHead w.walk.row w.walk.bucket ≡ stp = cc in
        subst (λ (x : Step). StageEnds t.shape.slots p.now q w (stage.Find find.LoadHead) (found x m)) same
        (λ plain none. knows.3 ∙ none_linked q w seeded free knows.0 none)
    stage_ends (stage.Find find.LoadNewHead) stp planned knows covers =
        let same : step.LoadHead w.walk.row w.walk.bucket ≡ stp = cc in
        subst (λ (x : Step). StageEnds t.shape.slots p.now q w (stage.Find find.LoadNewHead) (found x m)) same
        (λ none. knows.3 ∙ none_linked q w seeded free (knows.0.0, knows.0.1, knows.0.2, knows.0.3) none)
    stage_ends (stage.Find _) stp planned knows covers = tt
    stage_ends (stage.Node (node.Link x)) stp planned knows covers =
        let same : step.LoadLink x ≡ stp = cc in
        subst (λ (y : Step). StageEnds t.shape.slots p.now q w (stage.Node (node.Link x)) (found y m)) same
        (λ none. last_counts q w seeded free x none covers knows.0.0)
    stage_ends (stage.Node _) stp planned knows covers = tt
    stage_ends _ stp planned knows covers = tt

  -- A MACHINE

  pub machine_covers : (m' : Memory) (n' : Now) (x : Machine) (stp : Step) → plan_of x ≡ plan.Step stp → IsMade stp m m' → (event_of (text_of x) stp (found stp m) ≡ None → n' ≡ p.now) → seed_in x ≡ p.now.seed →
      (has_lock x ≡ false → p.now.resizing ≡ None) → KnowsMachine m p f i load passed x → MachineCovers m p.now passed x → MachineCovers m' n' (passed_after stp passed) (got_of x (found stp m))
  machine_covers m' n' (machine.Call c None g) stp planned made calm seeded free knows covers =
      subst (MachineCovers m' n' (passed_after stp passed)) (sym (got_is (machine.Call c None g) (found stp m)))
      (stage_steps m' n' c.asked c.along seeded (free refl) c.stage stp (sym (plan_is (machine.Call c None g)) ∙ planned) made calm knows.0.0 covers)
  machine_covers m' n' (machine.Call c (Some k) g) stp planned made calm seeded free knows covers = subst (MachineCovers m' n' (passed_after stp passed)) (sym (got_is (machine.Call c (Some k) g) (found stp m))) tt
  machine_covers m' n' (machine.Begin b) stp planned made calm seeded free knows covers = subst (MachineCovers m' n' (passed_after stp passed)) (sym (got_is (machine.Begin b) (found stp m))) tt
  machine_covers m' n' (machine.Poll b) stp planned made calm seeded free knows covers = subst (MachineCovers m' n' (passed_after stp passed)) (sym (got_is (machine.Poll b) (found stp m))) tt
  machine_covers m' n' (machine.Sweep b) stp planned made calm seeded free knows covers = subst (MachineCovers m' n' (passed_after stp passed)) (sym (got_is (machine.Sweep b) (found stp m))) tt

  pub machine_ends : (x : Machine) (stp : Step) → plan_of x ≡ plan.Step stp → seed_in x ≡ p.now.seed → (has_lock x ≡ false → p.now.resizing ≡ None) → KnowsMachine m p f i load passed x → MachineCovers m p.now passed x →
      MachineEnds t.shape.slots p.now x (found stp m)
  machine_ends (machine.Call c None g) stp planned seeded free knows covers =
      stage_ends m p.now c.asked c.along seeded (free refl) c.stage stp (sym (plan_is (machine.Call c None g)) ∙ planned) knows.0.0 covers
  machine_ends (machine.Call c (Some k) g) stp planned seeded free knows covers = tt
  machine_ends (machine.Begin b) stp planned seeded free knows covers = tt
  machine_ends (machine.Poll b) stp planned seeded free knows covers = tt
  machine_ends (machine.Sweep b) stp planned seeded free knows covers = tt
