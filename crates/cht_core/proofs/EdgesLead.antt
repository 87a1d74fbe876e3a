-- The links of linked slots, and the heads of the level's row that are not redirected, lead to linked slots.
use Rattle.std.proofs.Common.{◌≡◌, ℕ, ◌^◌, ◌<◌, false, Option, Some, sym, ap, subst, ◌∙◌}
use Rattle.chain_core.specs.Nodes.{On}
use Rattle.chain_core.specs.Path.{IsPath}
use Rattle.chain_core.proofs.Ways.{path_begins}
use Rattle.text_words.specs.Hash.{hash_of}
use Rattle.marked_word.specs.Head.{is_redirected, first_of}
use Rattle.table_shape.specs.declared.place.Place.TheVariants as place
use Rattle.cht_core.specs.declared.table.Table.{Table}
use Rattle.cht_core.specs.Flow.{Flow, IsUsed, ComesTo}
use Rattle.cht_core.specs.Stage.{bucket_in}
use Rattle.cht_core.specs.Memory.{Memory, links}
use Rattle.cht_core.specs.Parts.{EdgesLead}
use Rattle.cht_core.specs.Past.{Past}
use Rattle.cht_core.specs.Search.{IsLinked}
use Rattle.cht_core.specs.TableState.{IsTable}
use Rattle.cht_core.proofs.HeadWords.{first_of_head}
use Rattle.cht_core.proofs.Routes.{used_where_plain}
use Rattle.cht_core.proofs.Stages.{comes_somewhere, comes_used}
use Rattle.cht_core.proofs.Withouts.{next_on_path, no_loop}

module _ (t : Table) (m : Memory) (p : Past) (f : Flow) (table : IsTable t m p f) where
  -- the nodes of a chain are linked
  pub on_chain_linked : (row bucket s : ℕ) → IsUsed p.now f row bucket → On s (f.chain row bucket) → IsLinked p.now s
  on_chain_linked row bucket s used on = let is = table.chains.on_linked row bucket s used on in (is.0, is.1, is.2, is.3)

  -- a chain to which callers come has a linked slot, and its head leads along it
  pub record InChain (s : ℕ) : Type 0 where
    pub row : ℕ
    pub bucket : ℕ
    pub used : IsUsed p.now f row bucket
    pub first : Option ℕ
    pub path : IsPath (links m) first (f.chain row bucket)
    pub on : On s (f.chain row bucket)

  in_chain : (s : ℕ) → IsLinked p.now s → InChain s
  in_chain s linked =
      let hash : ℕ = hash_of p.now.seed linked.0 in
      let to : (row : ℕ) × ComesTo p.now f hash row = comes_somewhere p.now f hash in
      let used : IsUsed p.now f to.0 (bucket_in to.0 hash) = comes_used p.now f hash to.0 table.chains.within to.1 in
      let path = table.heads.paths to.0 (bucket_in to.0 hash) used in
      record { row = to.0; bucket = bucket_in to.0 hash; used = used; first = path.0; path = path.2; on = table.chains.linked_on s linked.0 linked.1 linked.2 to.0 linked.3 to.1 }

  -- the link of a linked slot leads to a linked slot, and to another one
  pub link_leads : (s next : ℕ) → IsLinked p.now s → links m s ≡ Some next → IsLinked p.now next
  link_leads s next linked leads =
      let at : InChain s = in_chain s linked in
      on_chain_linked at.row at.bucket next at.used (next_on_path (links m) at.first (f.chain at.row at.bucket) s next at.path leads at.on)

  pub link_leads_on : (s : ℕ) → IsLinked p.now s → links m s ≡ Some s → ⊥
  link_leads_on s linked leads = let at : InChain s = in_chain s linked in no_loop (links m) at.first (f.chain at.row at.bucket) s at.path at.on leads

  -- links of linked slots, and heads
  pub edges_lead : EdgesLead m p.now
  edges_lead = record { of_links = link_leads; of_heads = of_heads }
    where
      of_heads : (bucket first : ℕ) → bucket < 2 ^ p.now.level → is_redirected (m (place.Head p.now.level bucket)) ≡ false
          → first_of (m (place.Head p.now.level bucket)) ≡ Some first → IsLinked p.now first
      of_heads bucket first below plain leads =
          let used : IsUsed p.now f p.now.level bucket = used_where_plain m p.now f bucket table.heads below plain in
          let path = table.heads.paths p.now.level bucket used in
          let is : path.0 ≡ Some first = sym (ap first_of path.1 ∙ first_of_head path.0 (p.now.lock p.now.level bucket)) ∙ leads in
          let way : IsPath (links m) (Some first) (f.chain p.now.level bucket) = subst (λ from. IsPath (links m) from (f.chain p.now.level bucket)) is path.2 in
          on_chain_linked p.now.level bucket first used (path_begins (links m) first (f.chain p.now.level bucket) way)
