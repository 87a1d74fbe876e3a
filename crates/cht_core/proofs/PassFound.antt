-- What a pass has found after each of its steps: it looks at few nodes, and those that stay were live since it began.
use Rattle.std.proofs.Common.{◌≡◌, ◌⊎◌, ◌==◌, Bool, true, false, cond, ℕ, zero, suc, ◌+◌, ◌^◌, ◌<◌, ◌≤◌, min, nat_lt, inl, inr, List, [], ◌∷◌, ◌++◌, length, Option, Some, None, refl, sym, ap, subst, ◌∙◌, append_assoc, arith}
use Rattle.std.proofs.lemmas.Bool.{eqb-true, eqb-false}
use Rattle.std.proofs.lemmas.Bool.Decides.{nat_tests}
use Rattle.std.proofs.lemmas.List.{append-nil, length-append}
use Rattle.std.proofs.Math.Nat.{min-le_left}
use Rattle.chain_core.specs.Nodes.{On, Once}
use Rattle.chain_core.specs.Path.{IsPath, without}
use Rattle.chain_core.proofs.Members.{on_either, on_right, once_within, without-absent, without-here, without-other}
use Rattle.marked_word.specs.Link.{node_of, link_word}
use Rattle.table_shape.specs.declared.place.Place.TheVariants as place
use Rattle.text_words.specs.Hash.{hash_of}
use Rattle.intern_log.specs.declared.event.Event.{Event}
use Rattle.intern_log.specs.declared.event.Handle.{Handle}
use Rattle.intern_log.specs.declared.event.What.TheVariants as what
use Rattle.intern_log.specs.Now.{Now, Linked}
use Rattle.intern_log.specs.TextMap.{IsLive, entry_of}
use Rattle.atomic_step.specs.Count.{generation_of, holds_of}
use Rattle.atomic_step.specs.Event.{event_of}
use Rattle.atomic_step.proofs.Choices.{either_way}
use Rattle.call_machine.specs.declared.pass.Cleaning.{Cleaning}
use Rattle.call_machine.specs.declared.pass.PassStage.{PassStage}
use Rattle.call_machine.specs.declared.pass.PassStage.TheVariants as pass
use Rattle.call_machine.specs.Pass.{after_unlink, dead_of, first_behind, looks_at, pass_row, passes_on}
use Rattle.cht_core.specs.declared.table.Table.{Table}
use Rattle.cht_core.specs.Flow.{Flow, IsUsed}
use Rattle.cht_core.specs.Invariant.{events_of}
use Rattle.cht_core.specs.KnowsWork.{KnowsPass, IsAtNode, Locked}
use Rattle.cht_core.specs.Memory.{Memory, found, links}
use Rattle.cht_core.specs.Passes.{WereLiveSince, IsOnList, IsOfBucket, PassAt, PassFinds, LooksAtFew}
use Rattle.cht_core.specs.Past.{Past, past_of, told}
use Rattle.cht_core.specs.Slots.{count_in}
use Rattle.cht_core.specs.TableState.{IsTable}
use Rattle.cht_core.proofs.Counts.{counted_has, count_small, holds_in_word}
use Rattle.cht_core.proofs.HeadWords.{node_of_link}
use Rattle.cht_core.proofs.LiveSince.{live_at_end, were_live_told}
use Rattle.cht_core.proofs.Locking.{locked_path}
use Rattle.cht_core.proofs.Turns.{past_by, flow_of}
use Rattle.cht_core.proofs.TwoChains.{exact_one, used_comes}
use Rattle.cht_core.proofs.Walks.{all_from_on, held_inside}

-- LISTS

-- a node that is on a list once leaves the others
without_middle : (x : ℕ) (before behind : List ℕ) → Once (before ++ x ∷ behind) → without x (before ++ x ∷ behind) ≡ before ++ behind
without_middle x [] behind once = without-here x behind ∙ without-absent x behind once.0
without_middle x (y ∷ before) behind once =
    without-other x y (before ++ x ∷ behind) (λ same. once.0 (subst (λ (a : ℕ). On a (before ++ x ∷ behind)) (sym same) (on_right before (x ∷ behind) x (inl refl))))
    ∙ ap (λ (nodes : List ℕ). y ∷ nodes) (without_middle x before behind once.1)

-- a path goes on behind each of its nodes
path_behind : (next : ℕ → Option ℕ) (from : Option ℕ) (before : List ℕ) (x : ℕ) (behind : List ℕ) → IsPath next from (before ++ x ∷ behind) → IsPath next (next x) behind
path_behind next from [] x behind path = path.1
path_behind next from (y ∷ before) x behind path = path_behind next (next y) before x behind path.1

-- LIVE NODES

-- the entry of a linked slot that is counted is live
counted_live : (t : Table) (m : Memory) (p : Past) (f : Flow) (s : ℕ) (text : List ℕ) (h : Handle) (born : ℕ) → IsTable t m p f → p.now.slot s ≡ Linked text h born → (holds_of (m (place.Count s)) ≡ 0 → ⊥)
    → IsLive p.now.texts h
counted_live t m p f s text h born table linked some = go (count_in (entry_of p.now.texts text) h) refl
  where
    count : holds_of (m (place.Count s)) ≡ count_in (entry_of p.now.texts text) h
    count = ap holds_of (table.slots.counts s text h born linked)
        ∙ holds_in_word h (count_in (entry_of p.now.texts text) h) (count_small (entry_of p.now.texts text) h (λ e is. (table.tidy.entries text e is).3))

    go : (c : ℕ) → count_in (entry_of p.now.texts text) h ≡ c → IsLive p.now.texts h
    go zero is = absurd (some (count ∙ is))
    go (suc c) is = (text, counted_has (entry_of p.now.texts text) h (omega (arith, is)))

-- a chain has no more nodes than the table has slots
chain_few : (t : Table) (m : Memory) (p : Past) (f : Flow) (row bucket : ℕ) → IsTable t m p f → IsUsed p.now f row bucket → length (f.chain row bucket) ≤ t.shape.slots
chain_few t m p f row bucket table used =
    once_within t.shape.slots (f.chain row bucket) (table.chains.once row bucket used) (all_from_on (λ s. s < t.shape.slots) (f.chain row bucket) (λ s on.
    let node = table.chains.on_linked row bucket s used on in
    let early = (table.tidy.linked s node.0 node.1 node.2 node.3).1 in
    held_inside t m p f table p.now.place s (inl (node.0, node.1, node.2, node.3))))

-- where all nodes of a chain were live all linked slots of its bucket were
pub bucket_live : (t : Table) (m : Memory) (p : Past) (f : Flow) (log : List Event) (i row bucket at : ℕ) (first : Option ℕ) → IsTable t m p f → Locked m p.now f i row bucket first
    → WereLiveSince p.now log at (IsOnList (f.chain row bucket)) → WereLiveSince p.now log at (IsOfBucket p.now.seed row bucket)
bucket_live t m p f log i row bucket at first table locked were s text h born linked home =
    let hash : ℕ = hash_of p.now.seed text in
    let comes = used_comes p.now f hash row bucket table.chains.within (exact_one p.now f row bucket hash table.chains.within locked.used home locked.unpinned) locked.used home in
    were s text h born linked (subst (λ (b : ℕ). On s (f.chain row b)) home (table.chains.linked_on s text h born row linked comes))

-- STAGES

-- what a pass has found at its next stage; where it is over 256 slots wait, or the nodes of its chain were live
abbrev pub PassCame : Table → Now → List Event → Flow → ℕ → Cleaning → Option PassStage → Type 0
PassCame t n log f at c None = (length c.waiting.items ≡ 256) ⊎ WereLiveSince n log at (IsOnList (f.chain c.row c.bucket))
PassCame t n log f at c (Some s) = PassFinds t n log f at c s

-- the pass goes on behind the nodes that were live
goes_behind : (t : Table) (n : Now) (log : List Event) (f : Flow) (at : ℕ) (c : Cleaning) (leads : ℕ → Option ℕ) (next : Option ℕ) (before behind : List ℕ) → f.chain c.row c.bucket ≡ before ++ behind
    → IsPath leads next behind → WereLiveSince n log at (IsOnList before) → c.passed + length behind ≤ t.shape.slots → PassCame t n log f at c (passes_on next)
goes_behind t n log f at c leads None before [] chain path live few = inr (λ s text h born linked on.
    live s text h born linked (subst (On s) (append-nil before) (subst (On s) chain on)))
goes_behind t n log f at c leads None before (x ∷ behind) chain path live few = absurd (let clash = path.0 in cc)
goes_behind t n log f at c leads (Some x) before [] chain path live few = absurd (cc)
goes_behind t n log f at c leads (Some x) before (y ∷ behind) chain path live few =
    let here : x ≡ y = let first = path.0 in cc in
    record { before = before; behind = behind; chain = chain ∙ ap (λ (a : ℕ). before ++ a ∷ behind) (sym here); live = live; few = omega (arith, few) }

-- a pass begins at the first node of its chain
pub pass_begun : (t : Table) (m : Memory) (p : Past) (f : Flow) (log : List Event) (i at : ℕ) (c : Cleaning) → IsTable t m p f → Locked m p.now f i c.row c.bucket c.first → c.passed ≡ 0
    → PassCame t p.now log f at c (passes_on c.first)
pass_begun t m p f log i at c table locked none =
    let few = chain_few t m p f c.row c.bucket table locked.used in
    goes_behind t p.now log f at c (links m) c.first [] (f.chain c.row c.bucket) refl (locked_path t m p f i c.row c.bucket c.first table locked) (λ s text h born linked on. absurd on) (omega (arith, few, none))

-- A STEP

module _ (t : Table) (m : Memory) (log : List Event) (f : Flow) (i : ℕ) (c : Cleaning) (at : ℕ) (early : at ≤ length log) (table : IsTable t m (past_of t.shape.min_level log) f) where
  abbrev p : Past
  p = past_of t.shape.min_level log

  -- a step without an event
  no_event : (d : Cleaning) (next : Option PassStage) → PassCame t p.now log f at d next → PassCame t p.now (log ++ []) f at d next
  no_event d next came = subst (λ (l : List Event). PassCame t p.now l f at d next) (sym (append-nil log)) came

  -- the count of a node was loaded
  looked : (s : ℕ) → PassAt t p.now log f at c s 1 → PassAt t p.now log f at (looks_at c) s 0
  looked s h =
      let few = h.few in
      let less = min-le_left (c.passed + 1) 4294967295 in
      record { before = h.before; behind = h.behind; chain = h.chain; live = h.live; few = omega (arith, few, less) }

  counted_found : (s word : ℕ) → word ≡ m (place.Count s) → PassAt t p.now log f at c s 1 → (b : Bool) → (holds_of word == 0) ≡ b
      → PassFinds t p.now log f at (looks_at c) (pass.LoadLink s (cond b (Some (generation_of word)) None))
  counted_found s word loaded h true none = looked s h
  counted_found s word loaded h false some = (
    looked s h,
    λ x text k born linked on. elim on [
      | inl here ↦ live_at_end t.shape.min_level at log k early (counted_live t m p f x text k born table linked (λ nought.
          eqb-false (holds_of word) 0 some (ap holds_of loaded ∙ ap (λ (a : ℕ). holds_of (m (place.Count a))) here ∙ nought)))
      | inr off ↦ absurd off
    ],
  )

  -- a node that stays is passed
  stays_found : (s : ℕ) → IsAtNode m p.now f i c s → PassAt t p.now log f at c s 0 → WereLiveSince p.now log at (IsOnList (s ∷ []))
      → PassCame t p.now log f at (record c { last = Some s }) (passes_on (node_of (m (place.Link s))))
  stays_found s node h own =
      let few = h.few in
      goes_behind t p.now log f at (record c { last = Some s }) (links m) (node_of (m (place.Link s))) (h.before ++ s ∷ []) h.behind (h.chain ∙ sym (append_assoc h.before (s ∷ []) h.behind))
      (path_behind (links m) c.first h.before s h.behind (subst (IsPath (links m) c.first) h.chain (locked_path t m p f i c.row c.bucket c.first table node.0)))
      (λ x text k born linked on. elim (on_either h.before (s ∷ []) x on) [ inl old ↦ h.live x text k born linked old | inr new ↦ own x text k born linked new ])
      (omega (arith, few))

  -- a dead node is out of its chain
  unlinked_found : (s g : ℕ) (next : Option ℕ) → IsAtNode m p.now f i c s → m (place.Link s) ≡ link_word next → PassAt t p.now log f at c s 0 → (d : Cleaning) → d.row ≡ c.row → d.bucket ≡ c.bucket → d.passed ≡ c.passed
      → PassCame t (told p i (Some (what.Unlink s))).now (log ++ events_of i (Some (what.Unlink s))) (record f { chain = λ r b. without s (f.chain r b) }) at d (after_unlink d next)
  unlinked_found s g next node link h d row bucket passed = by_test (length d.waiting.items == 256) refl
    where
      f' : Flow
      f' = record f { chain = λ r b. without s (f.chain r b) }

      once : Once (h.before ++ s ∷ h.behind)
      once = subst Once h.chain (table.chains.once c.row c.bucket node.0.used)

      chain : f'.chain d.row d.bucket ≡ h.before ++ h.behind
      chain = ap (λ (r : ℕ). without s (f.chain r d.bucket)) row ∙ ap (λ (b : ℕ). without s (f.chain c.row b)) bucket ∙ ap (without s) h.chain ∙ without_middle s h.before h.behind once

      path : IsPath (links m) next h.behind
      path = subst (λ (x : Option ℕ). IsPath (links m) x h.behind) (ap node_of link ∙ node_of_link next)
          (path_behind (links m) c.first h.before s h.behind (subst (IsPath (links m) c.first) h.chain (locked_path t m p f i c.row c.bucket c.first table node.0)))

      goes : PassCame t (told p i (Some (what.Unlink s))).now (log ++ events_of i (Some (what.Unlink s))) f' at d (passes_on next)
      goes =
          let few = h.few in
          goes_behind t (told p i (Some (what.Unlink s))).now (log ++ events_of i (Some (what.Unlink s))) f' at d (links m) next h.before h.behind chain path
          (were_live_told t.shape.min_level log i (Some (what.Unlink s)) at (IsOnList h.before) early h.live) (omega (arith, few, passed))

      by_test : (b : Bool) → (length d.waiting.items == 256) ≡ b
          → PassCame t (told p i (Some (what.Unlink s))).now (log ++ events_of i (Some (what.Unlink s))) f' at d (cond b None (passes_on next))
      by_test true is = inl (eqb-true (length d.waiting.items) 256 is)
      by_test false is = goes

  -- after any step of a pass
  pub pass_found : (text : List ℕ) (s : PassStage) → KnowsPass m p.now f i c s → PassFinds t p.now log f at c s
      → let does = pass_row c s in let came = does.next (found does.step m) in
      PassCame t (past_by p i text does.step m).now (log ++ events_of i (event_of text does.step (found does.step m))) (flow_of p f i text does.step m) at came.0 came.1
  pass_found text (pass.LoadCount s) node h =
      no_event (looks_at c) (Some (pass.LoadLink s (dead_of (m (place.Count s))))) (counted_found s (m (place.Count s)) refl h (holds_of (m (place.Count s)) == 0) refl)
  pass_found text (pass.LoadLink s None) node h = no_event (record c { last = Some s }) (passes_on (node_of (m (place.Link s)))) (stays_found s node h.0 h.1)
  pass_found text (pass.LoadLink s (Some g)) node h = no_event c (Some (pass.Unlink s g (node_of (m (place.Link s))))) h
  pass_found text (pass.Unlink s g next) node h =
      let behind : Cleaning = record c { first = first_behind c.last c.first next; unlinked = min (c.unlinked + 1) 18446744073709551615 } in
      let one_more : Cleaning = record behind { waiting = record { items = behind.waiting.items ++ record { slot = s; generation = g } ∷ [] }; pass_waiting = behind.pass_waiting + 1 } in
      either_way (λ (d : Cleaning). PassCame t (told p i (Some (what.Unlink s))).now (log ++ events_of i (Some (what.Unlink s))) (record f { chain = λ r b. without s (f.chain r b) }) at d (after_unlink d next))
      (nat_lt (g + 1) (2 ^ 48)) one_more behind (unlinked_found s g next node.0 node.2 h one_more refl refl refl) (unlinked_found s g next node.0 node.2 h behind refl refl refl)

  -- it has looked at few nodes
  pub pass_looks : (s : PassStage) (word : ℕ) → PassFinds t p.now log f at c s → LooksAtFew t ((pass_row c s).next word).0
  pass_looks (pass.LoadCount s) word h =
      let few = h.few in
      let less = min-le_left (c.passed + 1) 4294967295 in
      omega (arith, few, less)
  pass_looks (pass.LoadLink s None) word h = let few = h.0.few in omega (arith, few)
  pass_looks (pass.LoadLink s (Some g)) word h = let few = h.few in omega (arith, few)
  pass_looks (pass.Unlink s g next) word h = (let few = h.few in let less : c.passed ≤ t.shape.slots = omega (arith, few) in either (nat_lt (g + 1) (2 ^ 48)) less)
    where
      behind : Cleaning
      behind = record c { first = first_behind c.last c.first next; unlinked = min (c.unlinked + 1) 18446744073709551615 }

      either : (b : Bool) → c.passed ≤ t.shape.slots → LooksAtFew t (cond b (record behind { waiting = record { items = behind.waiting.items ++ record { slot = s; generation = g } ∷ [] }; pass_waiting = behind.pass_waiting + 1 }) behind)
      either true less = less
      either false less = less

-- no more slots wait than were unlinked
pub pass_waits : (c : Cleaning) (s : PassStage) (word : ℕ) → length c.waiting.items < 256 → length c.waiting.items ≤ c.unlinked
    → length ((pass_row c s).next word).0.waiting.items ≤ ((pass_row c s).next word).0.unlinked
pass_waits c (pass.LoadCount s) word small few = few
pass_waits c (pass.LoadLink s None) word small few = few
pass_waits c (pass.LoadLink s (Some g)) word small few = few
pass_waits c (pass.Unlink s g next) word small few = either (nat_lt (g + 1) (2 ^ 48))
  where
    behind : Cleaning
    behind = record c { first = first_behind c.last c.first next; unlinked = min (c.unlinked + 1) 18446744073709551615 }

    one_more : Cleaning
    one_more = record behind { waiting = record { items = behind.waiting.items ++ record { slot = s; generation = g } ∷ [] }; pass_waiting = behind.pass_waiting + 1 }

    more : length c.waiting.items + 1 ≤ min (c.unlinked + 1) 18446744073709551615
    more = at_most (length c.waiting.items) c.unlinked few small
      where
        at_most : (a b : ℕ) → a ≤ b → a < 256 → a + 1 ≤ min (b + 1) 18446744073709551615
        at_most a b less small = grind (arith, nat_tests)

    either : (b : Bool) → length (cond b one_more behind).waiting.items ≤ (cond b one_more behind).unlinked
    either true = let whole = length-append c.waiting.items (record { slot = s; generation = g } ∷ []) in let most = more in omega (arith, whole, most)
    either false = let most = more in omega (arith, most)
