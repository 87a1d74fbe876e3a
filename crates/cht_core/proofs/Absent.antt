-- Where the head of its bucket is still what was loaded, a text that was looked for to the end of its chain has no live entry.
use Rattle.std.proofs.Common.{◌≡◌, ℕ, ◌<◌, ◌≤◌, false, List, [], ◌∷◌, Option, Some, None, refl, sym, ap, subst, ◌∙◌, inl, inr, arith}
use Rattle.std.proofs.lemmas.Bool.{false_from_ne_true}
use Rattle.chain_core.specs.Nodes.{On}
use Rattle.chain_core.specs.Path.{IsPath}
use Rattle.text_words.specs.Hash.{hash_of}
use Rattle.marked_word.specs.Head.{first_of, is_redirected}
use Rattle.table_shape.specs.declared.place.Place.TheVariants as place
use Rattle.intern_log.specs.declared.event.Entry.{Entry}
use Rattle.intern_log.specs.declared.event.Handle.{Handle}
use Rattle.intern_log.specs.Now.{Now, Phase, Claimed, Linked, Unlinked}
use Rattle.intern_log.specs.TextMap.{entry_of, IsLive}
use Rattle.atomic_step.specs.Count.{generation_of}
use Rattle.cht_core.specs.declared.table.Table.{Table}
use Rattle.cht_core.specs.Backs.{MayCreate}
use Rattle.cht_core.specs.Chains.{AreRanked, birth, born}
use Rattle.cht_core.specs.Flow.{Flow, IsUsed, ComesTo, IsHome}
use Rattle.cht_core.specs.Stage.{bucket_in}
use Rattle.cht_core.specs.Memory.{Memory, links}
use Rattle.cht_core.specs.Past.{Past}
use Rattle.cht_core.specs.Search.{IsAnchor, IsLinked}
use Rattle.cht_core.specs.Slots.{IsPast, IsLastOf}
use Rattle.cht_core.specs.TableState.{IsTable}
use Rattle.cht_core.proofs.CreateParts.{all_before_load}
use Rattle.cht_core.proofs.HeadWords.{first_of_head}
use Rattle.cht_core.proofs.Locking.{Unlocked, unlocked_path}
use Rattle.cht_core.proofs.Routes.{comes_where_plain, joined_locked}
use Rattle.cht_core.proofs.Stages.{comes_used}

-- a slot that is claimed is neither linked nor unlinked
pub claimed_not_linked : (phase : Phase) (i : ℕ) (text : List ℕ) (h : Handle) (at : ℕ) → phase ≡ Claimed i → phase ≡ Linked text h at → ⊥
claimed_not_linked phase i text h at claimed linked = cc

pub claimed_not_unlinked : (phase : Phase) (i seat at : ℕ) → phase ≡ Claimed i → phase ≡ Unlinked seat at → ⊥
claimed_not_unlinked phase i seat at claimed unlinked = cc

linked_not_unlinked : (phase : Phase) (text : List ℕ) (h : Handle) (born seat at : ℕ) → phase ≡ Linked text h born → phase ≡ Unlinked seat at → ⊥
linked_not_unlinked phase text h born seat at linked unlinked = cc

one_node : (a b : ℕ) → Some a ≡ Some b → a ≡ b
one_node a b same = cc

-- behind an anchor that is the first node of a chain, each node was made before the load
older : (m : Memory) (n : Now) (since load base : ℕ) (first : Option ℕ) (nodes : List ℕ) → IsAnchor n since load first → IsPath (links m) first nodes
    → ((s : ℕ) → On s nodes → IsLinked n s) → base ≤ load → AreRanked base (born n.slot) nodes → (s : ℕ) → On s nodes → load ≤ born n.slot s → ⊥
older m n since load base None [] anchor path linked early ranked s on late = on
older m n since load base None (x ∷ nodes) anchor path linked early ranked s on late = let is : None ≡ Some x = path.0 in absurd (cc)
older m n since load base (Some y) [] anchor path linked early ranked s on late = on
older m n since load base (Some y) (x ∷ nodes) anchor path linked early ranked s on late =
    let same : y ≡ x = one_node y x path.0 in
    elim anchor [
      | inl old ↦ (
          let birth_of : born n.slot x ≡ old.2 = ap (born n.slot) (sym same) ∙ ap birth old.3 in
          let before : old.2 < load = old.4 in
          let all : born n.slot s < load = all_before_load (born n.slot) base load x s nodes ranked early (omega arith) on in
          omega arith)
      | inr gone ↦ (
          let here : IsLinked n x = linked x (inl refl) in
          linked_not_unlinked (n.slot x) here.0 here.1 here.2 gone.0 gone.1 here.3 (ap n.slot (sym same) ∙ gone.2))
    ]

none_from : (o : Option Entry) → ((e : Entry) → o ≡ Some e → ⊥) → o ≡ None
none_from None never = refl
none_from (Some e) never = absurd (never e refl)

module _ (t : Table) (m : Memory) (p : Past) (f : Flow) (i : ℕ) (text : List ℕ) (h : Handle) (row bucket head : ℕ) (table : IsTable t m p f) (may : MayCreate t m p f i text h row bucket head)
    (word : m (place.Head row bucket) ≡ head) where
  -- callers of the text come to the row
  pub comes_to_it : ComesTo p.now f (hash_of p.now.seed text) row
  comes_to_it = comes_where_plain t m p f i (hash_of p.now.seed text) row may.searched.section table may.searched.inside may.searched.routed
      (ap is_redirected (ap (λ (b : ℕ). m (place.Head row b)) (sym may.at_bucket) ∙ word) ∙ may.plain)

  -- callers come to the bucket
  pub comes_here : IsUsed p.now f row bucket
  comes_here = subst (IsUsed p.now f row) (sym may.at_bucket) (comes_used p.now f (hash_of p.now.seed text) row table.chains.within comes_to_it)

  -- it is not locked, and its chain begins with the node that was loaded
  unlocked : Unlocked m p f row bucket head
  unlocked = unlocked_path t m p f row bucket head table comes_here word may.open_head

  pub is_open : p.now.lock row bucket ≡ None
  is_open = unlocked.lock

  pub leads_here : IsPath (links m) (first_of head) (f.chain row bucket)
  leads_here = subst (λ first. IsPath (links m) first (f.chain row bucket)) (sym (ap first_of unlocked.word ∙ first_of_head unlocked.first None)) unlocked.path

  -- the text has no live entry
  pub absent : entry_of p.now.texts text ≡ None
  absent = none_from (entry_of p.now.texts text) (λ e is. elim (may.searched.live e is) [
    | inr on ↦ absurd on
    | inl late ↦ (
        let there : On e.handle.slot (f.chain row (bucket_in row (hash_of p.now.seed text))) = table.chains.linked_on e.handle.slot text late.0 late.1 row late.2 comes_to_it in
        let on : On e.handle.slot (f.chain row bucket) = subst (λ b. On e.handle.slot (f.chain row b)) (sym may.at_bucket) there in
        let early : f.base row bucket ≤ may.load = subst (λ b. f.base row b ≤ may.load) (sym may.at_bucket) may.searched.based in
        let birth_of : born p.now.slot e.handle.slot ≡ late.1 = ap birth late.2 in
        let after_load : may.load ≤ late.1 = late.3 in
        elim (table.chains.ranked row bucket comes_here) [
          | inl joined ↦ absurd (joined_locked m p.now f row bucket table.heads is_open joined)
          | inr ranked ↦ older m p.now may.searched.section.place may.load (f.base row bucket) (first_of head) (f.chain row bucket) may.searched.anchor leads_here linked_here early
              ranked e.handle.slot on (omega arith)
        ])
  ])
    where
      linked_here : (s : ℕ) → On s (f.chain row bucket) → IsLinked p.now s
      linked_here s on =
          let is : (u : List ℕ) × (k : Handle) × (at : ℕ) × (p.now.slot s ≡ Linked u k at) × IsHome p.now f row bucket (hash_of p.now.seed u) = table.chains.on_linked row bucket s comes_here on in
          (is.0, is.1, is.2, is.3)

  -- no entry is live with the handle
  pub not_live : ¬ (IsLive p.now.texts h)
  not_live live =
      let at : (born : ℕ) × (p.now.slot live.1.0.handle.slot ≡ Linked live.0 live.1.0.handle born) × (1 ≤ live.1.0.count) × (live.1.0.count ≤ 65535) = table.tidy.entries live.0 live.1.0 live.1.1 in
      claimed_not_linked (p.now.slot h.slot) i live.0 live.1.0.handle at.0 may.claimed.0 (ap (λ (k : Handle). p.now.slot k.slot) (sym live.1.2) ∙ at.1)

  -- no entry was made with it
  pub not_made : p.made h ≡ false
  not_made = false_from_ne_true (p.made h) (λ made. past (p.now.slot h.slot) (generation_of (m (place.Count h.slot))) may.claimed.0 may.claimed.1 (table.slots.made h made))
    where
      past : (phase : Phase) (generation : ℕ) → phase ≡ Claimed i → generation ≡ h.generation → IsPast generation h phase → ⊥
      past phase generation claimed same is = elim is [
        | inl less ↦ omega arith
        | inr last ↦ subst (IsLastOf h) claimed last.1
      ]
