-- What the run of all names of a file comes to.
use Rattle.std.proofs.Common.{◌≡◌, ℕ, ◌+◌, ◌<◌, Bool, cond, List, [], ◌∷◌, count_by, length, refl, sym, ap, ◌∙◌, arith}
use Rattle.std.specs.Prelude.{fold}
use Rattle.std.proofs.lemmas.List.{length-map}
use Rattle.intern_log.specs.declared.event.Handle.{Handle}
use Rattle.intern_log.specs.declared.event.Event.{Event}
use Rattle.intern_log.specs.declared.event.What.{What}
use Rattle.intern_log.specs.TextMap.{TextMap}
use Rattle.intern_log.specs.Counts.{events_in, is_create, is_take, is_drop}
use Rattle.intern_log.specs.Finals.{finals, distinct_texts}
use Rattle.intern_log.specs.Window.{by_seat}
use Rattle.table_report.specs.declared.SymbolCounts.{SymbolCounts}
use Rattle.table_program.specs.Holding.{Held}
use Rattle.table_program.specs.SymbolRun.{held_texts, held_handles, SymbolRun}
use Rattle.table_program.specs.Symbols.{IsSymbolsOf}
use Rattle.table_program.proofs.FinalItems.{finals-map, length-finals}
use Rattle.table_program.proofs.LiveTexts.{live_texts_are_held}
use Rattle.table_program.proofs.References.{references_are}

-- the events of one seat pass a test as often as what happened does
events_from : (test : What → Bool) (seat : ℕ) (count : ℕ) (whats : List What) →
    fold (λ n (e : Event). n + cond (test e.what) 1 0) count (by_seat seat whats) ≡ fold (λ n what. n + cond (test what) 1 0) count whats
events_from test seat count [] = refl
events_from test seat count (what ∷ whats) = events_from test seat (count + cond (test what) 1 0) whats

pub events_by_seat : (test : What → Bool) (seat : ℕ) (whats : List What) → events_in test (by_seat seat whats) ≡ count_by test whats
events_by_seat test seat whats = events_from test seat 0 whats

pub symbols_of : (hold : ℕ) (names : List (List ℕ)) (texts : TextMap) (created : ℕ) (window : List Handle) (counts : SymbolCounts) →
    hold < 65535 → SymbolRun hold names texts created window counts → IsSymbolsOf hold names texts counts
symbols_of hold names texts created window counts few run =
    let final : held_texts (finals hold run.pairs) ≡ finals hold names = finals-map (λ (p : Held). p.0) hold run.pairs ∙ ap (finals hold) run.names_are in
    let within = length-finals hold run.pairs in
    record {
      log = by_seat 0 run.whats;
      is_log = record { whats = run.whats; by_one = refl; window = (held_handles run.pairs, run.run); legal = run.log.legal; numbered = run.log.numbered };
      counts_are = λ i. record {
        created = (events_by_seat is_create 0 run.whats ∙ sym run.counted.created) i;
        taken = (events_by_seat is_take 0 run.whats ∙ sym run.counted.taken) i;
        dropped = (events_by_seat is_drop 0 run.whats ∙ sym run.counted.dropped) i;
      };
      live_are = live_texts_are_held texts (finals hold run.pairs) run.holds ∙ ap distinct_texts final;
      references_are = references_are texts (finals hold run.pairs) run.holds (omega arith) ∙ sym (length-map (finals hold run.pairs) (λ (p : Held). p.0)) ∙ ap length final;
    }
