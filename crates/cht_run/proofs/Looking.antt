-- A load that is no step of a call comes to its end.
use Rattle.std.proofs.Common.{◌≡◌, ℕ, true, List, [], ◌++◌, map, inr, refl, sym, ap, subst, ◌∙◌}
use Rattle.intern_log.specs.declared.event.Event.{Event}
use Rattle.intern_log.specs.declared.event.What.{What}
use Rattle.intern_log.specs.Own.{is_among}
use Rattle.cht_core.specs.Windows.{whats_by}
use Rattle.cht_run.specs.declared.seat.Seat.{Seat}
use Rattle.cht_run.specs.declared.sight.Entry.{Entry}
use Rattle.cht_run.specs.declared.sight.Origin.{Origin}
use Rattle.cht_run.specs.declared.sight.Sight.{Sight}
use Rattle.cht_run.specs.Ended.{Ended}
use Rattle.cht_run.specs.History.{log_of, Follows, entries_by, told_by}
use Rattle.cht_run.specs.Looks.{Looked}
use Rattle.cht_run.specs.Seats.{sight, history, seen, numbers}
use Rattle.cht_run.proofs.Goes.{entries_none, whats_none}
use Rattle.cht_run.proofs.Histories.{log-append}

module _ (o : Origin) (old new : Seat) (index word : ℕ) (looked : Looked o index (sight old) word (sight new)) where
  pub whole : history new ≡ history old ++ looked.between
  whole = ap (λ (x : Sight). x.history) looked.after

  pub log_is : seen new ≡ seen old ++ log_of looked.between
  log_is = ap log_of whole ∙ log-append (history old) looked.between

  pub looked_follows : Follows (numbers old) (history old) (history new)
  looked_follows = record { later = looked.between; whole = whole; none = looked.none }

  nothing : whats_by old.number (log_of looked.between) ≡ []
  nothing = whats_none old.number (sight old).numbers looked.between (subst (λ n. is_among (sight old).numbers n ≡ true) (sym old.named) old.seat) looked.none

  pub looked_ended : (Did : List What → Type 0) (Why : List Event → List Event → Type 0) → Did [] → Why (seen old) (log_of looked.between) → Ended o.table old new Did Why
  looked_ended Did Why did why = record {
    keeps = record {
      number = new.named ∙ ap (λ (x : Sight). x.number) looked.after ∙ sym old.named;
      numbers = ap (λ (x : Sight). x.numbers) looked.after;
      kids = ap (λ (x : Sight). x.kids) looked.after;
    };
    window = looked.between;
    whole = whole;
    own = entries_none (numbers old) looked.between looked.none ∙ sym (ap (map (told_by old.number)) nothing);
    did = subst Did (sym nothing) did;
    alone = λ alone. subst (λ (l : List Entry). entries_by (numbers old) l ≡ l) (sym (looked.alone alone.kids alone.root)) refl;
    sees = inr looked.sees;
    why = why;
  }
