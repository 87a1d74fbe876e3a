-- The parts of the invariant hold.
use Rattle.std.proofs.Common.{false, ◌≡◌, ℕ, ◌+◌, ◌*◌, ◌/◌, ◌%◌, ◌<◌, ◌≤◌, ◌⊎◌, List, [], ◌∷◌, Option, Some, None, refl, sym, ap, subst, ◌∙◌, inl, inr, arith}
use Rattle.std.specs.Option.{option_map}
use Rattle.chain_core.specs.Nodes.{On}
use Rattle.chain_core.specs.Path.{IsPath}
use Rattle.chain_core.proofs.Ways.{path_one}
use Rattle.text_words.specs.Hash.{hash_of}
use Rattle.marked_word.specs.Head.{is_locked, is_redirected, first_of}
use Rattle.marked_word.specs.Number.{section_word}
use Rattle.table_shape.specs.declared.place.Place.TheVariants as place
use Rattle.intern_log.specs.declared.event.Entry.{Entry}
use Rattle.intern_log.specs.declared.event.Event.{Event}
use Rattle.intern_log.specs.declared.event.Handle.{Handle}
use Rattle.intern_log.specs.Buckets.{bucket_of}
use Rattle.intern_log.specs.Now.{Now, OpenSection, Phase, Linked, Unlinked}
use Rattle.intern_log.specs.Counts.{events_in}
use Rattle.intern_log.specs.Orderly.{is_grace}
use Rattle.intern_log.specs.Short.{IsShort}
use Rattle.intern_log.specs.TextMap.{entry_of}
use Rattle.intern_log.proofs.NowLaws.{section_of_log}
use Rattle.intern_log.proofs.OrderlyLaws.{lawful_is_orderly}
use Rattle.call_machine.specs.declared.stage.Calling.{Calling}
use Rattle.cht_core.specs.declared.table.Table.{Table}
use Rattle.cht_core.specs.Chains.{AreRanked, birth, born}
use Rattle.cht_core.specs.Edges.{UnlinkedLead}
use Rattle.cht_core.specs.Flow.{Flow, IsUsed, ComesTo}
use Rattle.cht_core.specs.Stage.{bucket_in, IsPinned}
use Rattle.cht_core.specs.Invariant.{Inv}
use Rattle.cht_core.specs.Memory.{Memory, links}
use Rattle.cht_core.specs.Parts.{EdgesLead, UnlinkedLeadLater, SectionsAreCounted, SectionsAreCountedAtOpen, WalkersStandSafely, WalkersAreLedSafely}
use Rattle.cht_core.specs.Parts.{GracesHavePlaces, PassedSectionsAreNewer, IsWalk, WalksAreRouted, WalkersMissNothing}
use Rattle.cht_core.specs.Parts.{FirstNodesAreOld, InsertedTextsAreAbsent, NodesAreVisitedOnce, PassedNodesAreFew, call_of}
use Rattle.cht_core.specs.Past.{Past, past_of, kind_of}
use Rattle.cht_core.specs.Search.{IsLinked, IsAnchor, IsRouted}
use Rattle.cht_core.specs.TableState.{IsTable}
use Rattle.cht_core.specs.View.{View}
use Rattle.cht_core.proofs.CreateParts.{all_before_load}
use Rattle.cht_core.proofs.EdgesKept.{unlinked_later}
use Rattle.cht_core.proofs.EdgesLead.{on_chain_linked, edges_lead}
use Rattle.cht_core.proofs.HeadWords.{first_of_head}
use Rattle.cht_core.proofs.Locking.{unlocked_path}
use Rattle.cht_core.proofs.PartsGraced.{grace_known}
use Rattle.cht_core.proofs.PartsKnown.{CallKnown, call_known, WalkKnown, walk_known, held_known}
use Rattle.cht_core.proofs.Routes.{comes_where_plain, joined_locked, settled_row, free_row}
use Rattle.cht_core.proofs.Stages.{comes_used}
use Rattle.cht_core.proofs.TwoChains.{exact_one, used_comes}
use Rattle.cht_core.proofs.Walks.{few_passed, none_ahead}

-- a section word without its lowest bit is at most the counter that its section was opened with, and that is at most the present one
below_counter : (word counter : ℕ) (section : Option OpenSection) → word ≡ section_word (option_map (λ (o : OpenSection). o.counter) section) → (word ≡ 0) ⊎ (word % 2 ≡ 1)
    → ((o : OpenSection) → section ≡ Some o → o.counter ≤ counter) → word / 2 * 2 ≤ counter
below_counter word counter None is sound early = omega (arith, is)
below_counter word counter (Some o) is sound early =
    let low : o.counter ≤ counter = early o refl in
    elim sound [ inl none ↦ omega (arith, is, none) | inr odd ↦ omega (arith, is, odd, low) ]

linked_twice : (phase : Phase) (text other : List ℕ) (h k : Handle) (a b : ℕ) → phase ≡ Linked text h a → phase ≡ Linked other k b → (h ≡ k) × (a ≡ b)
linked_twice phase text other h k a b one two = (cc, cc)

linked_not_unlinked : (phase : Phase) (text : List ℕ) (h : Handle) (at seat place : ℕ) → phase ≡ Linked text h at → phase ≡ Unlinked seat place → ⊥
linked_not_unlinked phase text h at seat place linked unlinked = cc

one_node : (a b : ℕ) → Some a ≡ Some b → a ≡ b
one_node a b same = cc

-- behind an anchor each node was made before the load
before_load : (n : Now) (since load base : ℕ) (next : ℕ → Option ℕ) (first : Option ℕ) (nodes : List ℕ) (s : ℕ) → IsAnchor n since load first → IsPath next first nodes
    → ((x : ℕ) → On x nodes → IsLinked n x) → base ≤ load → AreRanked base (born n.slot) nodes → On s nodes → born n.slot s < load
before_load n since load base next first [] s anchor path linked early ranked on = absurd on
before_load n since load base next first (x ∷ nodes) s anchor path linked early ranked on =
    all_before_load (born n.slot) base load x s nodes ranked early (first_before (subst (IsAnchor n since load) path.0 anchor) (linked x (inl refl))) on
  where
    first_before : IsAnchor n since load (Some x) → IsLinked n x → born n.slot x < load
    first_before anchor here = elim anchor [
      | inl old ↦ (let birth_of : born n.slot x ≡ old.2 = ap birth old.3 in let before : old.2 < load = old.4 in omega (arith, birth_of, before))
      | inr gone ↦ absurd (linked_not_unlinked (n.slot x) here.0 here.1 here.2 gone.0 gone.1 here.3 gone.2)
    ]

none_from : (o : Option Entry) → ((e : Entry) → o ≡ Some e → ⊥) → o ≡ None
none_from None never = refl
none_from (Some e) never = absurd (never e refl)

module _ (t : Table) (m : Memory) (p : Past) (f : Flow) (table : IsTable t m p f) where
  sections_counted : SectionsAreCounted m
  sections_counted k = below_counter (m (place.Section k)) (m place.Counter) (p.now.section k) (table.sections.words k) (table.words.sound (place.Section k))
      (λ o is. subst (λ counter. o.counter ≤ counter) (sym table.sections.counter) (table.tidy.sections k o is).1)

  -- a live entry is linked with its text and its handle
  live_linked : (text : List ℕ) (e : Entry) → entry_of p.now.texts text ≡ Some e → (at : ℕ) × (p.now.slot e.handle.slot ≡ Linked text e.handle at)
  live_linked text e is = let at = table.tidy.entries text e is in (at.0, at.1)

  -- where an unlocked head leads to an anchor, its chain is older than the load
  older_than_load : (since load row bucket head : ℕ) → IsUsed p.now f row bucket → m (place.Head row bucket) ≡ head → is_locked head ≡ false → IsAnchor p.now since load (first_of head)
      → f.base row bucket ≤ load → (s : ℕ) → On s (f.chain row bucket) → born p.now.slot s < load
  older_than_load since load row bucket head used word unlocked anchor early s on =
      let at = unlocked_path t m p f row bucket head table used word unlocked in
      let first : first_of head ≡ at.first = ap first_of at.word ∙ first_of_head at.first None in
      let path : IsPath (links m) (first_of head) (f.chain row bucket) = subst (λ from. IsPath (links m) from (f.chain row bucket)) (sym first) at.path in
      let linked : (x : ℕ) → On x (f.chain row bucket) → IsLinked p.now x = λ x. on_chain_linked t m p f table row bucket x used in
      elim (table.chains.ranked row bucket used) [
        | inl joined ↦ absurd (joined_locked m p.now f row bucket table.heads at.lock joined)
        | inr ranked ↦ before_load p.now since load (f.base row bucket) (links m) (first_of head) (f.chain row bucket) s anchor path linked early ranked on
      ]

  -- an entry of the bucket of an unlocked head is on its chain
  on_here : (row bucket head : ℕ) (text : List ℕ) (h : Handle) (s born : ℕ) → IsUsed p.now f row bucket → m (place.Head row bucket) ≡ head → is_locked head ≡ false
      → bucket_in row (hash_of p.now.seed text) ≡ bucket → p.now.slot s ≡ Linked text h born → On s (f.chain row bucket)
  on_here row bucket head text h s born used word unlocked here linked =
      let at = unlocked_path t m p f row bucket head table used word unlocked in
      let unpinned : ¬ (IsPinned f.stage p.now.level row bucket) = λ pinned.
      (let lock = table.heads.pinned row bucket pinned in let clash : None ≡ Some lock.0 = sym at.lock ∙ lock.2 in absurd (cc)) in
      let to : ComesTo p.now f (hash_of p.now.seed text) row =
      used_comes p.now f (hash_of p.now.seed text) row bucket table.chains.within (exact_one p.now f row bucket (hash_of p.now.seed text) table.chains.within used here unpinned) used here in
      subst (λ (b : ℕ). On s (f.chain row b)) here (table.chains.linked_on s text h born row linked to)

module _ (t : Table) (m : Memory) (seat : ℕ → Option View) (log : List Event) (inv : Inv t m seat log) where
  abbrev past : Past
  past = past_of t.shape.min_level log

  asked_known : (k : ℕ) (v : View) (c : Calling) → seat k ≡ Some v → call_of v.seat ≡ Some c → CallKnown t m past inv.flow k v c
  asked_known k v c at call = call_known t m past inv.flow k v c (inv.knows k v at) call

  walk_of : (k : ℕ) (v : View) (c : Calling) (node : Option ℕ) → IsWalk seat k v c node → WalkKnown m past inv.flow k v.load v.passed c.asked c.along node
  walk_of k v c node walk = walk_known m past inv.flow k v.load v.passed c.asked c.along node c.stage (asked_known k v c walk.view walk.call).knows walk.at

  -- the links of linked slots and the heads lead to linked slots
  pub edges_hold : EdgesLead m past.now
  edges_hold = edges_lead t m past inv.flow inv.table

  -- and those of unlinked slots to slots that were linked as those were unlinked, and were unlinked after them, if they were
  pub unlinked_edges_hold : UnlinkedLead t m log
  unlinked_edges_hold = inv.edges

  pub unlinked_edges_later : UnlinkedLeadLater m past.now
  unlinked_edges_later = unlinked_later t m log inv.table.tidy inv.edges

  -- the section words are at most the counter
  pub sections_hold : SectionsAreCounted m
  sections_hold = sections_counted t m past inv.flow inv.table

  -- and in a short log at most the counter at their Opens
  pub opens_hold : IsShort log → SectionsAreCountedAtOpen t m past.now log
  opens_hold short k o is =
      let lawful = inv.lawful short in
      let opening = (section_of_log (kind_of t) log k o lawful).0 is in
      record {
        front = opening.0;
        back = opening.1;
        opened = opening.2;
        here = opening.3;
        counted = below_counter (m (place.Section k)) (t.first_counter + 2 * events_in is_grace opening.0) (past.now.section k) (inv.table.sections.words k) (inv.table.words.sound (place.Section k))
            (λ open_one open_is. subst (λ (x : OpenSection). x.counter ≤ t.first_counter + 2 * events_in is_grace opening.0) (one_section o open_one (sym is ∙ open_is))
            ((lawful_is_orderly (kind_of t) log lawful).opens opening.0 opening.1 k o.counter opening.2).1);
      }
    where
      one_section : (a b : OpenSection) → Some a ≡ Some b → a ≡ b
      one_section a b same = cc

  -- no walker stands on a node that was unlinked before its Open
  pub walkers_stand : WalkersStandSafely past.now seat
  walkers_stand k v c s view call at =
      held_known m past inv.flow k v.load v.passed c.asked c.along t inv.table s c.stage (asked_known k v c view call).knows at

  -- nor does one lie on its path
  pub walkers_led : WalkersAreLedSafely m past.now seat
  walkers_led k v c node ahead walk path =
      let known = walk_of k v c node walk in
      let same : ahead ≡ known.ahead = path_one (links m) node known.ahead ahead known.path path in
      (known.searched.section, known.searched.inside, λ s on. (known.searched.fit s (subst (On s) same on)).held)

  -- each grace has a place
  pub graces_hold : GracesHavePlaces past.now seat
  graces_hold k v g waiting view has = grace_known m past inv.flow k t v g waiting (inv.knows k v view) has

  -- the sections of the numbers that it has passed are newer than what waits for it
  pub graces_pass : PassedSectionsAreNewer past.now seat
  graces_pass k v g waiting s j o view has on below is =
      let begun = graces_hold k v g waiting view has in
      let unlinked = begun.2 s on in
      let before : unlinked.0 < begun.0 = unlinked.2 in
      let after_place : begun.0 < o.place = begun.1.passed j o below is in
      (unlinked.0, unlinked.1, omega (arith, before, after_place))

  -- each walk is in the bucket of its text in its row, which is that of the level but in a resize
  pub walks_routed : WalksAreRouted past.now seat
  walks_routed k v c node walk =
      let known = walk_of k v c node walk in
      let hash : ℕ = hash_of c.asked.seed c.asked.text in
      let seed : c.asked.seed ≡ past.now.seed = (asked_known k v c walk.view walk.call).seed in (
        known.bucket ∙ ap (λ s. bucket_of s c.along.walk.row c.asked.text) seed,
        λ free. free_row t m past inv.flow k hash c.along.walk.row known.searched.section inv.table known.searched.inside known.searched.routed free,
        λ o inside new settled.
            let same : known.searched.section ≡ o = one_open known.searched.section o (sym known.searched.inside ∙ inside) in
            settled_row t m past inv.flow hash c.along.walk.row o inv.table
            (subst (λ (x : OpenSection). IsRouted past.now inv.flow x.place hash c.along.walk.row) same known.searched.routed) settled new,
      )
    where
      one_open : (a b : OpenSection) → Some a ≡ Some b → a ≡ b
      one_open a b same = cc

  -- no walk misses the live entry of its text
  pub walkers_hold : WalkersMissNothing m past.now seat
  walkers_hold k v c node walk =
      let known = walk_of k v c node walk in (
        known.ahead,
        known.path,
        λ e is. elim (known.searched.live e is) [
          | inr ahead ↦ inr ahead
          | inl late ↦ (
              let at = live_linked t m past inv.flow inv.table c.asked.text e is in
              let same : at.0 ≡ late.1 = (linked_twice (past.now.slot e.handle.slot) c.asked.text c.asked.text e.handle late.0 at.0 late.1 at.1 late.2).1 in
              let since : v.load ≤ late.1 = late.3 in
              inl (at.0, at.1, omega (arith, same, since)))
        ],
      )

  -- where the head is as it was loaded, the entries of its bucket are older
  pub first_nodes_hold : FirstNodesAreOld m past.now seat
  first_nodes_hold k v c text e at is here =
      let known = walk_of k v c None at.walk in
      let row : ℕ = c.along.walk.row in
      let hash : ℕ = hash_of c.asked.seed c.asked.text in
      let comes : ComesTo past.now inv.flow hash row = comes_where_plain t m past inv.flow k hash row known.searched.section inv.table known.searched.inside known.searched.routed
      (ap is_redirected (ap (λ (b : ℕ). m (place.Head row b)) (sym known.bucket) ∙ at.head) ∙ known.plain) in
      let used : IsUsed past.now inv.flow row c.along.walk.bucket = subst (IsUsed past.now inv.flow row) (sym known.bucket) (comes_used past.now inv.flow hash row inv.table.chains.within comes) in
      let linked = live_linked t m past inv.flow inv.table text e is in
      let birth_of : born past.now.slot e.handle.slot ≡ linked.0 = ap birth linked.1 in
      let on : On e.handle.slot (inv.flow.chain row c.along.walk.bucket) =
      on_here t m past inv.flow inv.table row c.along.walk.bucket c.along.walk.head text e.handle e.handle.slot linked.0 used at.head (known.open_head refl) here linked.1 in
      let early : inv.flow.base row c.along.walk.bucket ≤ v.load = subst (λ b. inv.flow.base row b ≤ v.load) (sym known.bucket) known.searched.based in
      let before : born past.now.slot e.handle.slot < v.load =
      older_than_load t m past inv.flow inv.table known.searched.section.place v.load row c.along.walk.bucket c.along.walk.head used at.head (known.open_head refl) known.searched.anchor early
      e.handle.slot on in
      (linked.0, linked.1, omega (arith, before, birth_of))

  -- so a text that is to be inserted is absent
  pub inserted_absent : InsertedTextsAreAbsent m past.now seat
  inserted_absent k v c at = none_from (entry_of past.now.texts c.asked.text) (λ e is.
      let routed = walks_routed k v c None at.walk in
      let old = first_nodes_hold k v c c.asked.text e at is (sym routed.0) in
      let walk = walkers_hold k v c None at.walk in
      elim (walk.2 e is) [
        | inr ahead ↦ subst (On e.handle.slot) (none_ahead (links m) walk.0 walk.1) ahead
        | inl new ↦ (
            let same : old.0 ≡ new.0 = (linked_twice (past.now.slot e.handle.slot) c.asked.text c.asked.text e.handle e.handle old.0 new.0 old.1 new.1).1 in
            let before : old.0 < v.load = old.2 in
            let since : v.load ≤ new.0 = new.2 in
            omega (arith, same, before, since))
      ])

  -- no walk visits a node twice
  pub visits_hold : NodesAreVisitedOnce t m seat
  visits_hold k v c node walk =
      let known = walk_of k v c node walk in
      record {
        apart = λ s ahead path was on. known.searched.apart s was (subst (On s) (path_one (links m) node known.ahead ahead known.path path) on);
        once = known.searched.once;
        few = few_passed t m past inv.flow inv.table k c.asked.text (hash_of c.asked.seed c.asked.text) c.along.walk.row v.load (first_of c.along.walk.head) v.passed known.ahead known.searched;
        counted = known.counted;
      }

  -- and has passed few of them
  pub passed_hold : PassedNodesAreFew t seat
  passed_hold k v c at is =
      let known : CallKnown t m past inv.flow k v c = call_known t m past inv.flow k v c (inv.knows k v at) is in
      subst (λ shape. c.along.walk.passed ≤ shape.slots) known.shape known.knows.1
