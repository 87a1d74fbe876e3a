-- What the events that change counts make of the map: another entry of one text, or none.
use Rattle.std.proofs.Common.{◌≡◌, ◌≢◌, ℕ, ◌⊎◌, Bool, true, false, cond, List, Option, Some, None, inl, inr, refl, sym, ap, subst, ◌∙◌}
use Rattle.std.specs.Bool.{Decides}
use Rattle.std.specs.Option.{option_map}
use Rattle.std.specs.Str.{bytes_eq}
use Rattle.std.proofs.lemmas.Slice.Eq.{bytes_eq-Decides}
use Rattle.intern_log.specs.declared.event.Entry.{Entry}
use Rattle.intern_log.specs.declared.event.Handle.{Handle}
use Rattle.intern_log.specs.declared.event.What.TheVariants as what
use Rattle.intern_log.specs.Log.{next, raised, lowered, made_permanent, HandlesDiffer}
use Rattle.intern_log.specs.TextMap.{TextMap, entry_of, put_at}
use Rattle.intern_log.proofs.Changes.{put_at-is_alter, put_same}
use Rattle.intern_log.proofs.Entries.{entry_of-put_at}

-- two texts are the same or not
pub text_cases : (text other : List ℕ) → (text ≡ other) ⊎ (text ≢ other)
text_cases text other = go (bytes_eq text other) (bytes_eq-Decides text other)
  where
    go : (b : Bool) → Decides b (text ≡ other) → (text ≡ other) ⊎ (text ≢ other)
    go true decided = inl (decided.0 refl)
    go false decided = inr (λ is. let never : false ≡ true = decided.1 is in cc)

-- one map has what the other has, except at a text
pub record Puts (texts texts' : TextMap) (text : List ℕ) (o : Option Entry) : Type 0 where
  pub here : entry_of texts' text ≡ o
  pub other : (q : List ℕ) → q ≢ text → entry_of texts' q ≡ entry_of texts q

put_puts : (texts : TextMap) (text : List ℕ) (o : Option Entry) → Puts texts (put_at texts text o) text o
put_puts texts text o = record {
  here = entry_of-put_at texts text o text ∙ ap (λ b. cond b o (entry_of texts text)) ((bytes_eq-Decides text text).1 refl);
  other = λ q differ. entry_of-put_at texts text o q ∙ apart q (bytes_eq q text) (bytes_eq-Decides q text) differ;
}
  where
    apart : (q : List ℕ) (b : Bool) → Decides b (q ≡ text) → q ≢ text → cond b o (entry_of texts q) ≡ entry_of texts q
    apart q true decided differ = absurd (differ (decided.0 refl))
    apart q false decided differ = refl

by_put : (texts texts' : TextMap) (text : List ℕ) (o : Option Entry) → texts' ≡ put_at texts text o → Puts texts texts' text o
by_put texts texts' text o is = subst (λ x. Puts texts x text o) (sym is) (put_puts texts text o)

module _ (texts : TextMap) (text : List ℕ) (e : Entry) (h : Handle) (has : entry_of texts text ≡ Some e) (own : e.handle ≡ h) (differ : HandlesDiffer texts) where
  -- what each event leaves of the entry of its handle
  pub found_puts : Puts texts (next texts (what.Found text h)) text (Some e)
  found_puts = by_put texts texts text (Some e) (sym (put_same texts text (Some e) has))

  pub take_puts : Puts texts (next texts (what.Take text h)) text (Some (raised e))
  take_puts = by_put texts _ text (Some (raised e)) (ap (λ o. put_at texts text (option_map raised o)) has)

  pub drop_puts : Puts texts (next texts (what.Drop h)) text (lowered e)
  drop_puts = by_put texts _ text (lowered e) (sym (put_at-is_alter lowered texts text e h differ has own))

  pub perm_puts : Puts texts (next texts (what.Perm h)) text (Some (made_permanent e))
  perm_puts = by_put texts _ text (Some (made_permanent e)) (sym (put_at-is_alter (λ x. Some (made_permanent x)) texts text e h differ has own))

  pub kill_puts : Puts texts (next texts (what.Kill h)) text None
  kill_puts = by_put texts _ text None (sym (put_at-is_alter (λ x. None) texts text e h differ has own))
