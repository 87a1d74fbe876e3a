-- Where callers come by the words, and that each linked slot is on a path from there.
use Rattle.std.proofs.Common.{◌≡◌, ℕ, ◌/◌, ◌%◌, true, false, Option, Some, None, List, refl, sym, ap, subst, ◌∙◌, inl, inr, arith}
use Rattle.std.proofs.lemmas.Bool.{ne_eqb}
use Rattle.chain_core.specs.Nodes.{On}
use Rattle.chain_core.specs.Path.{IsPath}
use Rattle.text_words.specs.Hash.{hash_of}
use Rattle.marked_word.specs.Head.{is_redirected, first_of}
use Rattle.marked_word.specs.Number.{new_level_word}
use Rattle.table_shape.specs.declared.place.Place.TheVariants as place
use Rattle.cht_core.specs.declared.table.Table.{Table}
use Rattle.cht_core.specs.Flow.{Flow, IsUsed, ComesTo}
use Rattle.cht_core.specs.Heads.{used_head}
use Rattle.cht_core.specs.Memory.{Memory, links}
use Rattle.cht_core.specs.PartsResize.{IsOnPathFrom, CallersComeTo, LinkedSlotsAreOnPaths}
use Rattle.cht_core.specs.Past.{Past}
use Rattle.cht_core.specs.Stage.{bucket_in, next_row, IsSent, IsUnsent}
use Rattle.cht_core.specs.TableState.{IsTable}
use Rattle.cht_core.proofs.HeadWords.{first_of_head}
use Rattle.cht_core.proofs.Routes.{redirected_mark}
use Rattle.cht_core.proofs.Stages.{comes_somewhere, comes_used, sent_or, gone_here, gone_behind, sent_named}

-- a head to which callers come has no redirect mark
used_mark : (first lock : Option ℕ) → is_redirected (used_head first lock) ≡ false
used_mark first None = ne_eqb (used_head first None / 2 % 2) 1 (λ e. omega (arith, e))
used_mark first (Some k) = ne_eqb (used_head first (Some k) / 2 % 2) 1 (λ e. omega (arith, e))

one_level : (a b : ℕ) → new_level_word (Some a) ≡ new_level_word (Some b) → a ≡ b
one_level a b same = omega (arith, same)

module _ (t : Table) (m : Memory) (p : Past) (f : Flow) (table : IsTable t m p f) where
  -- the path from a head to which callers come is its chain
  pub path_of_head : (row bucket : ℕ) → IsUsed p.now f row bucket → IsPath (links m) (first_of (m (place.Head row bucket))) (f.chain row bucket)
  path_of_head row bucket used =
      let way = table.heads.paths row bucket used in
      subst (λ (from : Option ℕ). IsPath (links m) from (f.chain row bucket)) (sym (ap first_of way.1 ∙ first_of_head way.0 (p.now.lock row bucket))) way.2

  pub on_path_from : (row bucket s : ℕ) → IsUsed p.now f row bucket → On s (f.chain row bucket) → IsOnPathFrom m row bucket s
  on_path_from row bucket s used on = (f.chain row bucket, path_of_head row bucket used, on)

  -- the head of a text in the level's row is redirected where the text is sent on, and plain where it is not
  sent_mark : (text : List ℕ) → IsSent f.stage p.now.level (hash_of p.now.seed text) → is_redirected (m (place.Head p.now.level (bucket_in p.now.level (hash_of p.now.seed text)))) ≡ true
  sent_mark text sent =
      let hash : ℕ = hash_of p.now.seed text in
      let left = table.heads.behind p.now.level (bucket_in p.now.level hash)
      (gone_behind f.stage p.now.level f.before p.now.level (bucket_in p.now.level hash) refl (gone_here f.stage p.now.level hash table.chains.within sent)) in
      ap is_redirected left.1 ∙ redirected_mark left.0

  unsent_mark : (text : List ℕ) → IsUnsent f.stage p.now.level (hash_of p.now.seed text) → is_redirected (m (place.Head p.now.level (bucket_in p.now.level (hash_of p.now.seed text)))) ≡ false
  unsent_mark text unsent =
      let hash : ℕ = hash_of p.now.seed text in
      let way = table.heads.paths p.now.level (bucket_in p.now.level hash) (comes_used p.now f hash p.now.level table.chains.within (inl (refl, unsent))) in
      ap is_redirected way.1 ∙ used_mark way.0 (p.now.lock p.now.level (bucket_in p.now.level hash))

  -- the words lead a caller to where it comes, and nowhere else
  pub callers_read : (text : List ℕ) (row : ℕ) → ComesTo p.now f (hash_of p.now.seed text) row → CallersComeTo m p.now text row
  callers_read text row to = elim to [
    | inl here ↦ inl (here.0, unsent_mark text here.1)
    | inr there ↦ inr (
      table.heads.new_level ∙ ap new_level_word (sent_named f.stage p.now.level (hash_of p.now.seed text) there.1) ∙ ap (λ (r : ℕ). new_level_word (Some r)) (sym there.0),
      sent_mark text there.1,
    )
  ]

  pub read_comes : (text : List ℕ) (row : ℕ) → CallersComeTo m p.now text row → ComesTo p.now f (hash_of p.now.seed text) row
  read_comes text row reads = elim (sent_or f.stage p.now.level (hash_of p.now.seed text)) [
    | inl sent ↦ elim reads [
      | inl here ↦ absurd (let clash : true ≡ false = sym (sent_mark text sent) ∙ here.1 in cc)
      | inr there ↦ inr (
        one_level row (next_row f.stage p.now.level) (sym there.0 ∙ table.heads.new_level ∙ ap new_level_word (sent_named f.stage p.now.level (hash_of p.now.seed text) sent)),
        sent,
      )
    ]
    | inr unsent ↦ elim reads [
      | inl here ↦ inl (here.0, unsent)
      | inr there ↦ absurd (let clash : true ≡ false = sym there.1 ∙ unsent_mark text unsent in cc)
    ]
  ]

  -- each linked slot is on the path from the head to which callers of its text come
  pub linked_on_paths : LinkedSlotsAreOnPaths m p.now
  linked_on_paths s text h born linked =
      let hash : ℕ = hash_of p.now.seed text in
      let to : (row : ℕ) × ComesTo p.now f hash row = comes_somewhere p.now f hash in (
        to.0,
        callers_read text to.0 to.1,
        on_path_from to.0 (bucket_in to.0 hash) s (comes_used p.now f hash to.0 table.chains.within to.1) (table.chains.linked_on s text h born to.0 linked to.1),
      )
