-- What a seat that cleans a bucket knows after each of its steps.
use Rattle.std.proofs.Common.{◌≡◌, ◌≢◌, ℕ, ◌+◌, ◌^◌, ◌<◌, ◌≤◌, Bool, true, false, cond, min, nat_lt, List, [], ◌∷◌, ◌++◌, length, Option, Some, None, refl, sym, ap, subst, ◌∙◌, arith}
use Rattle.std.specs.Prelude.{◌==◌}
use Rattle.std.proofs.lemmas.Bool.{eqb-true}
use Rattle.chain_core.specs.Nodes.{On}
use Rattle.chain_core.specs.Path.{IsPath, without}
use Rattle.marked_word.specs.Link.{node_of, link_word}
use Rattle.table_shape.specs.declared.place.Place.TheVariants as place
use Rattle.intern_log.specs.declared.event.Handle.{Handle}
use Rattle.intern_log.specs.declared.event.What.TheVariants as what
use Rattle.intern_log.specs.Now.{Now, Linked, Unlinked}
use Rattle.intern_log.specs.TextMap.{entry_of}
use Rattle.atomic_step.specs.declared.step.Step.TheVariants as step
use Rattle.atomic_step.specs.Count.{generation_of, holds_of, holds_word}
use Rattle.atomic_step.specs.Event.{event_of}
use Rattle.atomic_step.specs.Step.{edge_place, locked_head}
use Rattle.call_machine.specs.declared.pass.Cleaning.{Cleaning}
use Rattle.call_machine.specs.declared.pass.PassStage.{PassStage}
use Rattle.call_machine.specs.declared.pass.PassStage.TheVariants as pass
use Rattle.call_machine.specs.declared.pass.Waiting.{Waiting}
use Rattle.call_machine.specs.Pass.{edge_behind, first_behind, dead_of, looks_at, pass_row, passes_on, after_unlink}
use Rattle.cht_core.specs.declared.table.Table.{Table}
use Rattle.cht_core.specs.Flow.{Flow, IsUsed, flow_after}
use Rattle.cht_core.specs.KnowsWork.{IsAtNode, IsDead, IsWaiting, KnowsPass, KnowsWaiting, LeadsTo, Locked, slots_in}
use Rattle.cht_core.specs.Memory.{Memory, IsMade, found, links}
use Rattle.cht_core.specs.Past.{Past, told}
use Rattle.cht_core.specs.Slots.{count_in}
use Rattle.cht_core.specs.TableState.{IsTable}
use Rattle.cht_core.proofs.Basics.{after_load, with_here, with_other}
use Rattle.cht_core.proofs.Counts.{count_small, generation_in_word, holds_in_word}
use Rattle.cht_core.proofs.HeadWords.{link_of_node, node_of_link}
use Rattle.cht_core.proofs.LiveCounts.{LiveAt, live_entry}
use Rattle.cht_core.proofs.Locking.{locked_path}
use Rattle.cht_core.proofs.PassBacks.{KnowsCame, pass_goes_on}
use Rattle.cht_core.proofs.PassWaits.{waiting_unlinked, waits_on, waits_push}
use Rattle.cht_core.proofs.UnlinkParts.{dead_has_none}
use Rattle.cht_core.proofs.Waits.{IsAsItWas}
use Rattle.cht_core.proofs.Withouts.{next_on_path, no_loop, on_without}

-- what came of a step of a pass, and the slots that wait
abbrev pub PassKnows : Memory → Past → Flow → ℕ → Cleaning × Option PassStage → Type 0
PassKnows m p f i came = KnowsCame m p.now f i came.0 came.1 × KnowsWaiting m p i came.0.waiting.items

-- What is known of a bucket says nothing of the slots that wait, nor of the numbers of a pass.
module _ (m : Memory) (n : Now) (f : Flow) (i : ℕ) (c c' : Cleaning) (row : c'.row ≡ c.row) (bucket : c'.bucket ≡ c.bucket) (first : c'.first ≡ c.first) (last : c'.last ≡ c.last) where
  leads_same : (x y : Option ℕ) (s : ℕ) → y ≡ x → LeadsTo m f c x s → LeadsTo m f c' y s
  leads_same None y s same leads = subst (λ (z : Option ℕ). LeadsTo m f c' z s) (sym same) (first ∙ leads)
  leads_same (Some x) y s same leads = subst (λ (z : Option ℕ). LeadsTo m f c' z s) (sym same)
      (subst (λ (r : ℕ). On x (f.chain r c'.bucket)) (sym row) (subst (λ (b : ℕ). On x (f.chain c.row b)) (sym bucket) leads.0), leads.1)

  locked_same : Locked m n f i c.row c.bucket c.first → Locked m n f i c'.row c'.bucket c'.first
  locked_same locked = subst (λ (r : ℕ). Locked m n f i r c'.bucket c'.first) (sym row)
      (subst (λ (b : ℕ). Locked m n f i c.row b c'.first) (sym bucket) (subst (Locked m n f i c.row c.bucket) (sym first) locked))

  node_same : (s : ℕ) → IsAtNode m n f i c s → IsAtNode m n f i c' s
  node_same s at = (
    locked_same at.0,
    subst (λ (r : ℕ). On s (f.chain r c'.bucket)) (sym row) (subst (λ (b : ℕ). On s (f.chain c.row b)) (sym bucket) at.1),
    leads_same c.last c'.last s last at.2,
  )

  came_same : (next : Option PassStage) → KnowsCame m n f i c next → KnowsCame m n f i c' next
  came_same None locked = locked_same locked
  came_same (Some (pass.LoadCount s)) at = node_same s at
  came_same (Some (pass.LoadLink s None)) at = node_same s at
  came_same (Some (pass.LoadLink s (Some g))) at = (node_same s at.0, at.1)
  came_same (Some (pass.Unlink s g next)) at = (node_same s at.0, at.1, at.2)

-- a node on a chain whose count word has no hold is dead
pub dead_on_chain : (t : Table) (m : Memory) (p : Past) (f : Flow) (row bucket s : ℕ) → IsTable t m p f → IsUsed p.now f row bucket → On s (f.chain row bucket) →
    holds_of (m (place.Count s)) ≡ 0 → IsDead p.now s (generation_of (m (place.Count s)))
dead_on_chain t m p f row bucket s table used on none =
    let one = table.chains.on_linked row bucket s used on in
    let h : Handle = one.1 in
    let slot : h.slot ≡ s = (table.tidy.linked s one.0 h one.2 one.3).0 in
    let count : ℕ = count_in (entry_of p.now.texts one.0) h in
    let small : count < 65536 = count_small (entry_of p.now.texts one.0) h (λ e is. (table.tidy.entries one.0 e is).3) in
    let word : m (place.Count s) ≡ holds_word h count = table.slots.counts s one.0 h one.2 one.3 in (
      one.0,
      h,
      one.2,
      one.3,
      sym (ap generation_of word ∙ generation_in_word h count small),
      λ live. (
          let at : LiveAt m p.now h.slot live.0 h = live_entry t m p f table live.0 live.1.0 h live.1.1 live.1.2 in
          let most : at.entry.count ≤ 65535 = at.most in
          let least : 1 ≤ at.entry.count = at.least in
          let held : holds_of (m (place.Count s)) ≡ at.entry.count =
          ap (λ (x : ℕ). holds_of (m (place.Count x))) (sym slot) ∙ ap holds_of at.word ∙ holds_in_word h at.entry.count (omega (arith, most)) in
          omega (arith, held, least, none)),
    )

-- where a count was loaded the node is known to be dead, or is met as one that stays
counted : (m : Memory) (n : Now) (f : Flow) (i : ℕ) (c : Cleaning) (s word : ℕ) → IsAtNode m n f i c s → (holds_of word ≡ 0 → IsDead n s (generation_of word)) →
    (b : Bool) → (holds_of word == 0) ≡ b → KnowsPass m n f i c (pass.LoadLink s (cond b (Some (generation_of word)) None))
counted m n f i c s word at dead true none = (at, dead (eqb-true (holds_of word) 0 none))
counted m n f i c s word at dead false some = at

-- The edge behind a node leads past it.
module _ (t : Table) (m m' : Memory) (p : Past) (f : Flow) (i : ℕ) (c : Cleaning) (s : ℕ) (next : Option ℕ) (table : IsTable t m p f) (at : IsAtNode m p.now f i c s)
    (link : m (place.Link s) ≡ link_word next) where
  -- the bucket is locked still, and its first node is the next one where no node before it stays
  head_behind : (last : Option ℕ) → IsMade (step.Unlink s (edge_behind c last) next) m m' → m' (place.Head c.row c.bucket) ≡ locked_head (first_behind last c.first next)
  head_behind None made = made.here
  head_behind (Some last) made = made.there (place.Head c.row c.bucket) (λ same. cc) ∙ at.0.head

  leads_next : links m s ≡ next
  leads_next = ap node_of link ∙ node_of_link next

  chain_path : IsPath (links m) c.first (f.chain c.row c.bucket)
  chain_path = locked_path t m p f i c.row c.bucket c.first table at.0

  -- a node of its chain that leads to it, or from it, is another one
  other_behind : (last : ℕ) → On last (f.chain c.row c.bucket) → m (place.Link last) ≡ s + 1 → last ≢ s
  other_behind last on leads same = no_loop (links m) c.first (f.chain c.row c.bucket) s chain_path at.1
      (ap (links m) (sym same) ∙ ap node_of leads ∙ node_of_link (Some s))

  other_ahead : (x : ℕ) → next ≡ Some x → x ≢ s
  other_ahead x is same = no_loop (links m) c.first (f.chain c.row c.bucket) s chain_path at.1 (leads_next ∙ is ∙ ap Some same)

  -- the next node is on the chain without it
  ahead_on : (x : ℕ) → next ≡ Some x → On x (without s (f.chain c.row c.bucket))
  ahead_on x is = on_without s x (f.chain c.row c.bucket)
      (next_on_path (links m) c.first (f.chain c.row c.bucket) s x chain_path (leads_next ∙ is) at.1) (other_ahead x is)

  -- and the edge leads to it
  leads_ahead : (f' : Flow) (c' : Cleaning) (last : Option ℕ) (x : ℕ) → f'.chain c'.row c'.bucket ≡ without s (f.chain c.row c.bucket) → c'.first ≡ first_behind last c.first next →
      LeadsTo m f c last s → IsMade (step.Unlink s (edge_behind c last) next) m m' → next ≡ Some x → LeadsTo m' f' c' last x
  leads_ahead f' c' None x chain first leads made is = first ∙ is
  leads_ahead f' c' (Some last) x chain first leads made is = (
    subst (On last) (sym chain) (on_without s last (f.chain c.row c.bucket) leads.0 (other_behind last leads.0 leads.1)),
    made.here ∙ ap link_word is,
  )

not_count : (c : Cleaning) (last : Option ℕ) (x : ℕ) → place.Count x ≡ edge_place (edge_behind c last) → ⊥
not_count c None x same = cc
not_count c (Some last) x same = cc

stops_or : (m : Memory) (n : Now) (f : Flow) (i : ℕ) (c : Cleaning) (next : Option PassStage) (b : Bool) → KnowsCame m n f i c None → KnowsCame m n f i c next →
    KnowsCame m n f i c (cond b None next)
stops_or m n f i c next true stops goes = stops
stops_or m n f i c next false stops goes = goes

-- A dead node is unlinked, and waits to be freed unless its generation is the last one.
module _ (t : Table) (m m' : Memory) (p : Past) (f : Flow) (i : ℕ) (c : Cleaning) (s g : ℕ) (next : Option ℕ) (table : IsTable t m p f) (at : IsAtNode m p.now f i c s)
    (dead : IsDead p.now s g) (link : m (place.Link s) ≡ link_word next) (made : IsMade (step.Unlink s (edge_behind c c.last) next) m m') where
  abbrev pass_past : Past
  pass_past = told p i (Some (what.Unlink s))

  abbrev pass_flow : Flow
  pass_flow = record f { chain = λ r b. without s (f.chain r b) }

  counts_stay : (x : ℕ) → m' (place.Count x) ≡ m (place.Count x)
  counts_stay x = made.there (place.Count x) (not_count c c.last x)

  was_waiting : (x when : ℕ) → p.now.slot x ≡ Unlinked i when → IsAsItWas m p m' pass_past x
  was_waiting x when is = record {
    phase = with_other p.now.slot s (Unlinked i p.now.place) x (λ same. let clash : Unlinked i when ≡ Linked dead.0 dead.1 dead.2 = sym is ∙ ap p.now.slot same ∙ dead.3 in cc);
    count = counts_stay x;
    uses = omega arith;
  }

  abbrev behind : Cleaning
  behind = record c { first = first_behind c.last c.first next; unlinked = min (c.unlinked + 1) 18446744073709551615 }

  behind_locked : Locked m' pass_past.now pass_flow i c.row c.bucket (first_behind c.last c.first next)
  behind_locked = record { used = at.0.used; unpinned = at.0.unpinned; lock = at.0.lock; head = head_behind t m m' p f i c s next table at link c.last made }

  behind_came : KnowsCame m' pass_past.now pass_flow i behind (passes_on next)
  behind_came = pass_goes_on m' pass_past.now pass_flow i behind next behind_locked
      (λ x is. (ahead_on t m m' p f i c s next table at link x is, leads_ahead t m m' p f i c s next table at link pass_flow behind c.last x refl refl at.2 made is))

  -- the slot itself
  abbrev new : Waiting
  new = record { slot = s; generation = g }

  new_waits : IsWaiting m' pass_past i pass_past.now.place new
  new_waits =
      let generation : dead.1.generation ≡ g = dead.4 in
      let count : m' (place.Count s) ≡ holds_word dead.1 0 =
      counts_stay s ∙ table.slots.counts s dead.0 dead.1 dead.2 dead.3 ∙ ap (holds_word dead.1) (dead_has_none p.now.texts dead.0 dead.1 dead.5) in
      let used : dead.1.generation + 1 ≤ p.uses s = table.slots.used s dead.0 dead.1 dead.2 dead.3 in (
        p.now.place,
        with_here p.now.slot s (Unlinked i p.now.place) s refl,
        omega arith,
        count ∙ ap (λ (x : ℕ). holds_word (record { slot = s; generation = x }) 0) generation,
        omega (arith, generation, used),
      )

  new_absent : KnowsWaiting m p i c.waiting.items → On s (slots_in c.waiting.items) → ⊥
  new_absent waiting on =
      let is = waiting_unlinked m p i p.now.place s c.waiting.items waiting.0 on in
      let clash : Unlinked i is.0 ≡ Linked dead.0 dead.1 dead.2 = sym is.1 ∙ dead.3 in
      cc

  waiting_on : KnowsWaiting m p i c.waiting.items → KnowsWaiting m' pass_past i c.waiting.items
  waiting_on waiting = waits_on m p m' pass_past i c.waiting.items (omega arith) was_waiting waiting

  abbrev one_more : Cleaning
  one_more = record behind { waiting = record { items = behind.waiting.items ++ new ∷ [] }; pass_waiting = behind.pass_waiting + 1 }

  one_more_came : KnowsCame m' pass_past.now pass_flow i one_more (passes_on next)
  one_more_came = came_same m' pass_past.now pass_flow i behind one_more refl refl refl refl (passes_on next) behind_came

  unlinked_knows : KnowsWaiting m p i c.waiting.items → (b : Bool) → PassKnows m' pass_past pass_flow i (cond b one_more behind, after_unlink (cond b one_more behind) next)
  unlinked_knows waiting true = (
    stops_or m' pass_past.now pass_flow i one_more (passes_on next) (length one_more.waiting.items == 256) behind_locked one_more_came,
    waits_push m' pass_past i c.waiting.items new (waiting_on waiting) new_waits (new_absent waiting),
  )
  unlinked_knows waiting false = (
    stops_or m' pass_past.now pass_flow i behind (passes_on next) (length behind.waiting.items == 256) behind_locked behind_came,
    waiting_on waiting,
  )

-- after a step of a pass its next stage is known, or the locked bucket where it is over, and the slots that wait
pub pass_next : (t : Table) (m m' : Memory) (p : Past) (f : Flow) (i : ℕ) (text : List ℕ) (c : Cleaning) (stage : PassStage) → IsTable t m p f → KnowsPass m p.now f i c stage →
    KnowsWaiting m p i c.waiting.items → IsMade (pass_row c stage).step m m' →
    PassKnows m' (told p i (event_of text (pass_row c stage).step (found (pass_row c stage).step m))) (flow_after p.now f i text (pass_row c stage).step (found (pass_row c stage).step m)) i
    ((pass_row c stage).next (found (pass_row c stage).step m))
pass_next t m m' p f i text c (pass.LoadCount s) table knows waiting made =
    let same : m' ≡ m = after_load (step.LoadCount s) m m' refl made in
    let at : IsAtNode m p.now f i (looks_at c) s = node_same m p.now f i c (looks_at c) refl refl refl refl s knows in
    let dead = λ (none : holds_of (m (place.Count s)) ≡ 0). dead_on_chain t m p f c.row c.bucket s table knows.0.used knows.1 none in
    let came = counted m p.now f i (looks_at c) s (m (place.Count s)) at dead (holds_of (m (place.Count s)) == 0) refl in
    subst (λ (now : Memory). PassKnows now p f i (looks_at c, Some (pass.LoadLink s (dead_of (m (place.Count s)))))) (sym same) (came, waiting)
pass_next t m m' p f i text c (pass.LoadLink s None) table knows waiting made =
    let same : m' ≡ m = after_load (step.LoadLink s) m m' refl made in
    let stays : Cleaning = record c { last = Some s } in
    let goes_on : (x : ℕ) → node_of (m (place.Link s)) ≡ Some x → On x (f.chain c.row c.bucket) × LeadsTo m f stays (Some s) x = λ x is. (
      next_on_path (links m) c.first (f.chain c.row c.bucket) s x (locked_path t m p f i c.row c.bucket c.first table knows.0) is knows.1,
      (knows.1, sym (link_of_node (m (place.Link s))) ∙ ap link_word is),
    ) in
    subst (λ (now : Memory). PassKnows now p f i (stays, passes_on (node_of (m (place.Link s))))) (sym same)
    (pass_goes_on m p.now f i stays (node_of (m (place.Link s))) knows.0 goes_on, waiting)
pass_next t m m' p f i text c (pass.LoadLink s (Some g)) table knows waiting made =
    let same : m' ≡ m = after_load (step.LoadLink s) m m' refl made in
    subst (λ (now : Memory). PassKnows now p f i (c, Some (pass.Unlink s g (node_of (m (place.Link s)))))) (sym same)
    ((knows.0, knows.1, sym (link_of_node (m (place.Link s)))), waiting)
pass_next t m m' p f i text c (pass.Unlink s g next) table knows waiting made =
    unlinked_knows t m m' p f i c s g next table knows.0 knows.1 knows.2 made waiting (nat_lt (g + 1) (2 ^ 48))

-- a pass stays at its bucket
pub pass_same_bucket : (c : Cleaning) (stage : PassStage) (word : ℕ) → (((pass_row c stage).next word).0.row ≡ c.row) × (((pass_row c stage).next word).0.bucket ≡ c.bucket)
pass_same_bucket c (pass.LoadCount s) word = (refl, refl)
pass_same_bucket c (pass.LoadLink s None) word = (refl, refl)
pass_same_bucket c (pass.LoadLink s (Some g)) word = (refl, refl)
pass_same_bucket c (pass.Unlink s g next) word = either (nat_lt (g + 1) (2 ^ 48))
  where
    waiting : Cleaning → Cleaning
    waiting d = record d { waiting = record { items = d.waiting.items ++ record { slot = s; generation = g } ∷ [] }; pass_waiting = d.pass_waiting + 1 }

    behind : Cleaning
    behind = record c { first = first_behind c.last c.first next; unlinked = min (c.unlinked + 1) 18446744073709551615 }

    either : (b : Bool) → ((cond b (waiting behind) behind).row ≡ c.row) × ((cond b (waiting behind) behind).bucket ≡ c.bucket)
    either true = (refl, refl)
    either false = (refl, refl)
