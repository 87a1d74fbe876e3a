-- What holds once all entries are listed.
use Rattle.std.proofs.Common.{◌≡◌, ℕ, zero, suc, ◌+◌, ◌-◌, ◌≤◌, Bool, true, false, cond, List, [], ◌∷◌, ◌++◌, Option, Some, None, length, drop, count_by, refl, sym, ap, subst, ◌∙◌, inl, inr, arith, append-nil, zero-add, ◌||◌, ◌&&◌}
use Rattle.std.specs.List.{cons_option}
use Rattle.std.specs.Option.{option_and_then}
use Rattle.std.specs.Str.{bytes_eq}
use Rattle.std.proofs.lemmas.Bool.{and_right, or_left, or_right}
use Rattle.std.proofs.lemmas.List.Sums.{sum_by-cons, sum_by-append}
use Rattle.std.proofs.lemmas.Slice.Eq.{bytes_eq-Decides}
use Rattle.intern_log.specs.declared.event.Handle.{Handle}
use Rattle.intern_log.specs.declared.event.What.{What}
use Rattle.intern_log.specs.declared.event.What.TheVariants.{Create, Kill}
use Rattle.intern_log.specs.TextMap.{TextMap}
use Rattle.intern_log.specs.Counts.{is_create, is_found, is_kill, events_in}
use Rattle.intern_log.specs.Finals.{finals, is_among_texts}
use Rattle.intern_log.specs.Window.{by_seat, IsWeakIntern, IsLiteralList}
use Rattle.intern_log.specs.PlainLogs.{IsNumberedFrom, slots_taken, kill_of, kills_of}
use Rattle.table_report.specs.declared.StringCounts.{StringCounts}
use Rattle.table_program.specs.Holding.{Held}
use Rattle.table_program.specs.SymbolRun.{held_texts}
use Rattle.table_program.specs.StringRun.{made_by, made_in, kept_among, kill_for, kills_among, StringRun, StringListing, IsStringsOf}
use Rattle.table_program.proofs.LiveTexts.{live_texts_are, held_are_live}

-- the Kill for an event is that of the entry that it made
kill_of-made : (final : List (List ℕ)) (what : What) → kill_of final what ≡ option_and_then (kill_for final) (made_by what)
kill_of-made final (Create t h) = refl
kill_of-made final _ = refl

filter_map-then : (final : List (List ℕ)) (rest : List What) (entries : List Held) (o : Option Held) → rest ≡ kills_among final entries →
    cons_option (option_and_then (kill_for final) o) rest ≡ kills_among final (cons_option o entries)
filter_map-then final rest entries None is = is
filter_map-then final rest entries (Some p) is = ap (cons_option (kill_for final p)) is

kills_are : (final : List (List ℕ)) (interns : List What) → kills_of final interns ≡ kills_among final (made_in interns)
kills_are final [] = refl
kills_are final (what ∷ interns) =
    ap (λ o. cons_option o (kills_of final interns)) (kill_of-made final what) ∙ filter_map-then final (kills_of final interns) (made_in interns) (made_by what) (kills_are final interns)

-- the events of one seat are counted as what happened
events_in-by_seat : (test : What → Bool) (whats : List What) → events_in test (by_seat 0 whats) ≡ count_by test whats
events_in-by_seat test [] = refl
events_in-by_seat test (what ∷ whats) =
    sum_by-cons (λ e. cond (test e.what) 1 0) (record { seat = 0; what = what }) (by_seat 0 whats)
    ∙ ap (λ n. cond (test what) 1 0 + n) (events_in-by_seat test whats)
    ∙ sym (sum_by-cons (λ w. cond (test w) 1 0) what whats)

abbrev one_if : Bool → ℕ
one_if b = cond b 1 0

-- how many events of each kind interns have, and Kills
record InternCounts (literals : ℕ) (whats : List What) : Type 0 where
  interns : count_by is_create whats + count_by is_found whats ≡ literals
  no_kills : count_by is_kill whats ≡ 0

record IsOneIntern (what : What) : Type 0 where
  one : one_if (is_create what) + one_if (is_found what) ≡ suc zero
  no_kill : one_if (is_kill what) ≡ zero

is_one_intern : (t : List ℕ) (h : Handle) (what : What) → IsWeakIntern t h what → IsOneIntern what
is_one_intern t h what (inl is) = subst IsOneIntern (sym is) (record { one = refl; no_kill = refl })
is_one_intern t h what (inr is) = subst IsOneIntern (sym is) (record { one = refl; no_kill = refl })

intern_counts : (literals : List (List ℕ)) (whats : List What) → IsLiteralList literals whats → InternCounts (length literals) whats
intern_counts [] whats run = subst (InternCounts 0) (sym run) (record { interns = refl; no_kills = refl })
intern_counts (t ∷ literals) whats run =
    let one = is_one_intern t run.0 run.1 run.3 in
    let rest = intern_counts literals run.2 run.5 in
    let created = sum_by-cons (λ w. one_if (is_create w)) run.1 run.2 in
    let found = sum_by-cons (λ w. one_if (is_found w)) run.1 run.2 in
    let killed = sum_by-cons (λ w. one_if (is_kill w)) run.1 run.2 in
    subst (InternCounts (length (t ∷ literals))) (sym run.4) (record {
      interns = omega (arith, one.one, rest.interns);
      no_kills = omega (arith, one.no_kill, rest.no_kills);
    })

-- no more entries are made than there are literals
pub created_within : (literals : List (List ℕ)) (texts : TextMap) (created : ℕ) (made : List Held) → StringRun literals texts created made → created ≤ length literals
created_within literals texts created made run =
    let counts = intern_counts literals run.interns run.in_order in
    omega (arith, counts.interns, run.log.created_are)

record KillCounts (whats : List What) : Type 0 where
  no_creates : count_by is_create whats ≡ 0
  no_founds : count_by is_found whats ≡ 0
  kills : count_by is_kill whats ≡ length whats

kill_counts : (final : List (List ℕ)) (entries : List Held) → KillCounts (kills_among final entries)
kill_counts final [] = record { no_creates = refl; no_founds = refl; kills = refl }
kill_counts final (p ∷ entries) = by_test (is_among_texts final p.0) (kill_counts final entries)
  where
    by_test : (b : Bool) → KillCounts (kills_among final entries) → KillCounts (cons_option (cond b None (Some (Kill p.1))) (kills_among final entries))
    by_test true rest = rest
    by_test false rest = record {
      no_creates = sum_by-cons (λ w. one_if (is_create w)) (Kill p.1) (kills_among final entries) ∙ zero-add _ ∙ rest.no_creates;
      no_founds = sum_by-cons (λ w. one_if (is_found w)) (Kill p.1) (kills_among final entries) ∙ zero-add _ ∙ rest.no_founds;
      kills = (let more = sum_by-cons (λ w. one_if (is_kill w)) (Kill p.1) (kills_among final entries) in omega (arith, rest.kills));
    }

-- also once some entries are killed
pub created_within_listing : (final literals : List (List ℕ)) (listed left : List Held) (texts : TextMap) (created killed : ℕ) → StringListing final literals listed left texts created killed → created ≤ length literals
created_within_listing final literals listed left texts created killed listing =
    let counts = intern_counts literals listing.interns listing.in_order in
    let kills = kill_counts final listed in
    let parts = sum_by-append (λ w. one_if (is_create w)) listing.interns (kills_among final listed) in
    omega (arith, counts.interns, kills.no_creates, listing.log.created_are)

-- what begins a numbered list is numbered
IsNumberedFrom-prefix : (n : ℕ) (xs ys : List What) → IsNumberedFrom n (xs ++ ys) → IsNumberedFrom n xs
IsNumberedFrom-prefix n [] ys numbered = tt
IsNumberedFrom-prefix n (x ∷ xs) ys numbered = (numbered.0, IsNumberedFrom-prefix (n + slots_taken x) xs ys numbered.1)

-- a text is among the entries that are kept where it is among all and final: one entry more
kept_case : (final : List (List ℕ)) (q t : List ℕ) (among kept : Bool) (f b : Bool) → is_among_texts final t ≡ f → bytes_eq q t ≡ b → kept ≡ (among && is_among_texts final q) →
    cond f (bytes_eq q t || kept) kept ≡ ((bytes_eq q t || among) && is_among_texts final q)
kept_case final q t among kept f b is same rest = by_test f b is same
  where
    here : bytes_eq q t ≡ true → is_among_texts final q ≡ is_among_texts final t
    here equal = ap (is_among_texts final) ((bytes_eq-Decides q t).0 equal)

    by_test : (f b : Bool) → is_among_texts final t ≡ f → bytes_eq q t ≡ b → cond f (bytes_eq q t || kept) kept ≡ ((bytes_eq q t || among) && is_among_texts final q)
    by_test true true is same = or_left _ _ same ∙ sym (ap (λ c. (c || among) && is_among_texts final q) same ∙ here same ∙ is)
    by_test true false is same = ap (λ c. c || kept) same ∙ rest ∙ ap (λ c. (c || among) && is_among_texts final q) (sym same)
    by_test false true is same = rest ∙ and_right among (is_among_texts final q) (here same ∙ is) ∙ sym (ap (λ c. (c || among) && is_among_texts final q) same ∙ here same ∙ is)
    by_test false false is same = rest ∙ ap (λ c. (c || among) && is_among_texts final q) (sym same)

chosen : (q : List ℕ) (p : Held) (entries : List Held) (f : Bool) → is_among_texts (held_texts (cond f (p ∷ entries) entries)) q ≡ cond f (bytes_eq q p.0 || is_among_texts (held_texts entries) q) (is_among_texts (held_texts entries) q)
chosen q p entries true = refl
chosen q p entries false = refl

among_kept : (final : List (List ℕ)) (entries : List Held) (q : List ℕ) → is_among_texts (held_texts (kept_among final entries)) q ≡ (is_among_texts (held_texts entries) q && is_among_texts final q)
among_kept final [] q = refl
among_kept final (p ∷ entries) q =
    chosen q p (kept_among final entries) (is_among_texts final p.0)
    ∙ kept_case final q p.0 (is_among_texts (held_texts entries) q) _ (is_among_texts final p.0) (bytes_eq q p.0) refl refl (among_kept final entries q)

-- a text that is among the last ones is among all
among_dropped : (n : ℕ) (texts : List (List ℕ)) (q : List ℕ) → is_among_texts (drop n texts) q ≡ true → is_among_texts texts q ≡ true
among_dropped zero texts q among = among
among_dropped (suc n) [] q among = among
among_dropped (suc n) (t ∷ texts) q among = or_right _ _ (among_dropped n texts q among)

both_same : (a b : Bool) → (b ≡ true → a ≡ true) → (a && b) ≡ b
both_same a true holds = ap (λ x. x && true) (holds refl)
both_same a false holds = and_right a false refl

-- once all entries are listed, the interner is that of the whole log
pub strings_are : (hold : ℕ) (literals : List (List ℕ)) (made : List Held) (texts : TextMap) (created killed : ℕ) (counts : StringCounts) →
    StringListing (finals hold literals) literals made [] texts created killed →
    counts.created ≡ created → counts.found ≡ length literals - created → counts.killed ≡ killed → IsStringsOf hold literals texts counts
strings_are hold literals made texts created killed counts listing created_is found_is killed_is =
    let final = finals hold literals in
    let whats = listing.interns ++ kills_among final made in
    let all_made : made ≡ made_in listing.interns = sym (append-nil made) ∙ listing.made_are in
    let kills : kills_of final listing.interns ≡ kills_among final made = kills_are final listing.interns ∙ ap (kills_among final) (sym all_made) in
    let interned = intern_counts literals listing.interns listing.in_order in
    let listed = kill_counts final made in
    let creates : count_by is_create whats ≡ created = listing.log.created_are in
    let create_parts = sum_by-append (λ w. one_if (is_create w)) listing.interns (kills_among final made) in
    let found_parts = sum_by-append (λ w. one_if (is_found w)) listing.interns (kills_among final made) in
    let kill_parts = sum_by-append (λ w. one_if (is_kill w)) listing.interns (kills_among final made) in
    let created_all : count_by is_create whats ≡ counts.created = creates ∙ sym created_is in
    let found_all : count_by is_found whats ≡ counts.found = omega (arith, interned.interns, listed.no_creates, listed.no_founds) in
    let killed_all : count_by is_kill whats ≡ counts.killed = omega (arith, interned.no_kills, listed.kills, listing.killed_are) in
    record {
      log = by_seat 0 whats;
      is_log = record {
        interns = listing.interns;
        by_one = ap (λ ks. by_seat 0 (listing.interns ++ ks)) (sym kills);
        literals_in_order = listing.in_order;
        legal = listing.log.legal;
        numbered = IsNumberedFrom-prefix 0 listing.interns (kills_among final made) listing.log.numbered;
      };
      counts_are = λ i. record {
        created = (events_in-by_seat is_create whats ∙ created_all) i;
        found = (events_in-by_seat is_found whats ∙ found_all) i;
        killed = (events_in-by_seat is_kill whats ∙ killed_all) i;
      };
      texts_are = listing.log.texts_are;
      live_are = live_texts_are texts final (λ q.
          held_are_live texts (kept_among final made) listing.has.holds q
          ∙ among_kept final made q
          ∙ ap (λ b. b && is_among_texts final q) (ap (λ entries. is_among_texts (held_texts entries) q) (sym (append-nil made)) ∙ listing.all q)
          ∙ both_same (is_among_texts literals q) (is_among_texts final q) (among_dropped (length literals - hold) literals q));
    }
