-- From what an interner answers to the run of a file's names.
use Rattle.std.proofs.Common.{◌≡◌, ℕ, ◌+◌, ◌-◌, ◌≤◌, List, [], length, filter, refl, sym, subst, arith}
use Rattle.std.specs.Prelude.{MatchOption}
use Rattle.std.specs.FinMap as finite
use Rattle.std.specs.Ordering.{nat_cmp}
use Rattle.std.specs.Cmp.Lexicographic.{slice_cmp}
use Rattle.std.proofs.Math.Seq.{drop-nil}
use Rattle.std.proofs.lemmas.List.{length-map}
use Rattle.circular_buffer.specs.Buffer.{Buffer, buffer}
use Rattle.std.proofs.lemmas.List.Sums.{length-filter, count_by-le-length}
use Rattle.intern_log.specs.declared.event.Handle.{Handle}
use Rattle.intern_log.specs.declared.event.Kind.TheVariants.{Counted}
use Rattle.intern_log.specs.TextMap.{TextMap, no_texts}
use Rattle.name_scan.specs.declared.Token.{Token}
use Rattle.name_scan.specs.FileTexts.{is_name, text_of, names_among}
use Rattle.table_program.specs.Holding.{times_held, Counts, Holds}
use Rattle.plain_interner.specs.State.{State}
use Rattle.table_report.specs.declared.SymbolCounts.{SymbolCounts}
use Rattle.table_program.specs.SymbolRun.{SymbolRun, NameInterned}
use Rattle.table_program.specs.Symbols.{InternsName, NamesSoFar}

-- a name that an interner has interned on the way through a file's names
pub name_interned : (hold : ℕ) (names : List (List ℕ)) (old new : State) (window : List Handle) (was is : SymbolCounts) (name : List ℕ) (h : Handle) →
    SymbolRun hold names old.texts old.created window was → InternsName old was name new is h → NameInterned hold names name h new.texts new.created window is
name_interned hold names old new window was is name h run interns = record {
  what = interns.what;
  old_texts = old.texts;
  old_created = old.created;
  old_counts = was;
  before = run;
  intern = interns.intern;
  allowed = interns.follows.allowed;
  numbered = interns.numbered;
  texts_are = interns.follows.texts;
  created_are = interns.follows.created;
  counts_are = interns.counts;
}

-- before the first name
pub no_names : (hold : ℕ) → SymbolRun hold [] no_texts 0 [] (record { created = 0; taken = 0; dropped = 0 })
no_names hold = record {
  whats = [];
  pairs = [];
  names_are = refl;
  run = (refl, refl);
  log = record { legal = tt; numbered = tt; texts_are = refl; created_are = refl };
  window_is = sym (drop-nil (0 - hold));
  holds = subst (Holds no_texts) (sym (drop-nil (0 - hold))) none_held;
  counted = record { created = refl; taken = refl; dropped = refl };
  all_names = refl;
  few_drops = omega arith;
}
  where
    none_held : Holds no_texts []
    none_held text = subst (λ o. MatchOption o (times_held text [] ≡ 0) (Counts text [])) (sym (finite.get-empty (slice_cmp nat_cmp) text)) refl

-- there are no more entries than names, and no more names than tokens
pub created_few : (hold : ℕ) (bytes : List ℕ) (found : List Token) (m : TextMap) (created : ℕ) (window : List Handle) (counts : SymbolCounts) →
    SymbolRun hold (names_among bytes found) m created window counts → (created ≤ length found) × (counts.created + counts.taken ≤ length found)
created_few hold bytes found m created window counts run =
    let names = length-map (filter (λ (t : Token). is_name t.kind) found) (text_of bytes) in
    let passing = length-filter (λ (t : Token). is_name t.kind) found in
    let bound = count_by-le-length (λ (t : Token). is_name t.kind) found in
    (omega (arith, run.all_names, run.counted.created, run.log.created_are), omega (arith, run.all_names))

-- an interner and a window that were made just now
pub names_begin : (hold : ℕ) (bytes : List ℕ) (plain : State) (window : Buffer Handle) → plain ≡ record { kind = Counted; texts = no_texts; created = 0 } → window ≡ buffer [] hold →
    NamesSoFar hold bytes [] plain window (record { created = 0; taken = 0; dropped = 0 })
names_begin hold bytes plain window empty open_window =
    subst (λ p. NamesSoFar hold bytes [] p window (record { created = 0; taken = 0; dropped = 0 })) (sym empty)
    (subst (λ w. NamesSoFar hold bytes [] (record { kind = Counted; texts = no_texts; created = 0 }) w (record { created = 0; taken = 0; dropped = 0 })) (sym open_window)
    (record { kind = refl; capacity = refl; run = no_names hold }))
