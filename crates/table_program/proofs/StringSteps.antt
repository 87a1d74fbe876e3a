-- One more literal, and one more entry of the listing.
use Rattle.std.proofs.Common.{◌≡◌, ℕ, ◌+◌, Bool, true, false, cond, List, [], ◌∷◌, ◌++◌, Some, None, length, refl, sym, ap, subst, ◌∙◌, inl, inr, append-nil, append_assoc, length-append, add-zero, ◌||◌}
use Rattle.std.specs.Prelude.{is_some}
use Rattle.std.specs.List.{filter_map, cons_option}
use Rattle.std.specs.Str.{bytes_eq}
use Rattle.std.proofs.lemmas.Bool.{or_left}
use Rattle.std.proofs.lemmas.List.{map-append}
use Rattle.std.proofs.lemmas.List.Elements.{filter_map-append, filter-append}
use Rattle.std.proofs.lemmas.Slice.Eq.{bytes_eq-Decides}
use Rattle.intern_log.specs.declared.event.Handle.{Handle}
use Rattle.intern_log.specs.declared.event.What.TheVariants.{Create, Found, Kill}
use Rattle.intern_log.specs.TextMap.{TextMap, no_texts, entry_of, HasHandle, IsLive}
use Rattle.intern_log.specs.Log.{next, Allows, HandlesDiffer}
use Rattle.intern_log.specs.Finals.{is_among_texts}
use Rattle.intern_log.specs.PlainLogs.{slot_handle}
use Rattle.intern_log.proofs.Handles.{live_handles_differ_lem}
use Rattle.intern_log.proofs.PlainLogLaws.{IsLiteralList-push}
use Rattle.table_program.specs.Holding.{Held}
use Rattle.table_program.specs.OneSeatLog.{OneSeatLog}
use Rattle.table_program.specs.SymbolRun.{held_texts}
use Rattle.table_program.specs.StringRun.{made_by, made_in, HasEach, StringRun, kept_among, kill_for, kills_among, StringListing}
use Rattle.table_program.proofs.Pushes.{OneSeatLog-push}
use Rattle.table_program.proofs.LiveTexts.{held_are_live}
use Rattle.table_program.proofs.EachOnce.{HasEach-none, HasEach-create, HasEach-rotate, HasEach-kill, first_is_live}

-- no literals
pub StringRun-none : StringRun [] no_texts 0 []
StringRun-none = record {
  interns = [];
  in_order = refl;
  log = record { legal = tt; numbered = tt; texts_are = refl; created_are = refl };
  made_are = refl;
  has = HasEach-none;
  all = λ q. refl;
}

or-false : (b : Bool) → (b || false) ≡ b
or-false true = refl
or-false false = refl

-- one more text behind texts
among-push : (texts : List (List ℕ)) (t q : List ℕ) → is_among_texts (texts ++ t ∷ []) q ≡ (is_among_texts texts q || bytes_eq q t)
among-push [] t q = or-false (bytes_eq q t)
among-push (u ∷ texts) t q = ap (λ b. bytes_eq q u || b) (among-push texts t q) ∙ grouped (bytes_eq q u) (is_among_texts texts q) (bytes_eq q t)
  where
    grouped : (a b c : Bool) → (a || (b || c)) ≡ ((a || b) || c)
    grouped true b c = refl
    grouped false b c = refl

among-push_held : (held : List Held) (t q : List ℕ) (h : Handle) → is_among_texts (held_texts (held ++ (t, h) ∷ [])) q ≡ (is_among_texts (held_texts held) q || bytes_eq q t)
among-push_held held t q h = ap (λ texts. is_among_texts texts q) (map-append (λ (p : Held). p.0) held ((t, h) ∷ [])) ∙ among-push (held_texts held) t q

-- a literal that was not live: its text has a new entry
pub literal_created : (literals : List (List ℕ)) (texts : TextMap) (created : ℕ) (made : List Held) (t : List ℕ) (h : Handle) →
    StringRun literals texts created made → Allows texts (Create t h) → h ≡ slot_handle created →
    StringRun (literals ++ t ∷ []) (next texts (Create t h)) (created + 1) (made ++ (t, h) ∷ [])
literal_created literals texts created made t h run allowed numbered = record {
  interns = run.interns ++ Create t h ∷ [];
  in_order = IsLiteralList-push literals run.interns t h (Create t h) run.in_order (inl refl);
  log = OneSeatLog-push run.interns (Create t h) texts created run.log allowed numbered;
  made_are = ap (λ entries. entries ++ (t, h) ∷ []) run.made_are ∙ sym (filter_map-append made_by run.interns (Create t h ∷ []));
  has = HasEach-create texts made t h run.has allowed.0;
  all = λ q. among-push_held made t q h ∙ ap (λ b. b || bytes_eq q t) (run.all q) ∙ sym (among-push literals t q);
}

-- a text that is live is among the literals already
among_already : (texts : TextMap) (literals : List (List ℕ)) (t q : List ℕ) → (is_some (entry_of texts t) ≡ is_among_texts literals t) → (h : Handle) → HasHandle texts t h →
    is_among_texts literals q ≡ (is_among_texts literals q || bytes_eq q t)
among_already texts literals t q live h has = by_test (bytes_eq q t) refl
  where
    by_test : (b : Bool) → bytes_eq q t ≡ b → is_among_texts literals q ≡ (is_among_texts literals q || bytes_eq q t)
    by_test true same =
        let among : is_among_texts literals q ≡ true = ap (is_among_texts literals) ((bytes_eq-Decides q t).0 same) ∙ sym live ∙ ap is_some has.1 in
        among ∙ sym (or_left _ _ among)
    by_test false other = sym (or-false _) ∙ ap (λ b. is_among_texts literals q || b) (sym other)

-- a literal that is live: nothing changes
pub literal_found : (literals : List (List ℕ)) (texts : TextMap) (created : ℕ) (made : List Held) (t : List ℕ) (h : Handle) →
    StringRun literals texts created made → Allows texts (Found t h) → StringRun (literals ++ t ∷ []) texts created made
literal_found literals texts created made t h run allowed = record {
  interns = run.interns ++ Found t h ∷ [];
  in_order = IsLiteralList-push literals run.interns t h (Found t h) run.in_order (inr refl);
  log = subst (OneSeatLog (run.interns ++ Found t h ∷ []) texts) (add-zero created) (OneSeatLog-push run.interns (Found t h) texts created run.log allowed tt);
  made_are = run.made_are ∙ sym (append-nil (made_in run.interns)) ∙ sym (filter_map-append made_by run.interns (Found t h ∷ []));
  has = run.has;
  all = λ q. run.all q ∙ among_already texts literals t q (held_are_live texts made run.has.holds t ∙ run.all t) h allowed ∙ sym (among-push literals t q);
}

-- the listing begins with all that were made
pub listing_begins : (final literals : List (List ℕ)) (texts : TextMap) (created : ℕ) (made : List Held) → StringRun literals texts created made → StringListing final literals [] made texts created 0
listing_begins final literals texts created made run = record {
  interns = run.interns;
  in_order = run.in_order;
  log = subst (λ ws. OneSeatLog ws texts created) (sym (append-nil run.interns)) run.log;
  made_are = run.made_are;
  has = subst (HasEach texts) (sym (append-nil made)) run.has;
  all = run.all;
  killed_are = refl;
}

module _ (final literals : List (List ℕ)) (listed left : List Held) (texts : TextMap) (created killed : ℕ) (t : List ℕ) (h : Handle)
    (listing : StringListing final literals listed ((t, h) ∷ left) texts created killed) where
  -- the next entry is live
  pub listed_is_live : IsLive texts h
  listed_is_live = first_is_live texts t h (left ++ kept_among final listed) listing.has

  made_more : (listed ++ (t, h) ∷ []) ++ left ≡ made_in listing.interns
  made_more = append_assoc listed ((t, h) ∷ []) left ∙ listing.made_are

  all_more : (q : List ℕ) → is_among_texts (held_texts ((listed ++ (t, h) ∷ []) ++ left)) q ≡ is_among_texts literals q
  all_more q = ap (λ entries. is_among_texts (held_texts entries) q) (append_assoc listed ((t, h) ∷ []) left) ∙ listing.all q

  kept_more : (b : Bool) → is_among_texts final t ≡ b → kept_among final (listed ++ (t, h) ∷ []) ≡ kept_among final listed ++ cond b ((t, h) ∷ []) []
  kept_more b is = filter-append (λ (p : Held). is_among_texts final p.0) listed ((t, h) ∷ []) ∙ ap (λ c. kept_among final listed ++ cond c ((t, h) ∷ []) []) is

  kills_more : (b : Bool) → is_among_texts final t ≡ b → kills_among final (listed ++ (t, h) ∷ []) ≡ kills_among final listed ++ cond b [] (Kill h ∷ [])
  kills_more b is = filter_map-append (kill_for final) listed ((t, h) ∷ []) ∙ ap (λ more. kills_among final listed ++ more) (by_test b is)
    where
      chosen : (b : Bool) → cons_option (cond b None (Some (Kill h))) [] ≡ cond b [] (Kill h ∷ [])
      chosen true = refl
      chosen false = refl

      by_test : (b : Bool) → is_among_texts final t ≡ b → filter_map (kill_for final) ((t, h) ∷ []) ≡ cond b [] (Kill h ∷ [])
      by_test b is = ap (λ c. cons_option (cond c None (Some (Kill h))) []) is ∙ chosen b

  -- it stays where its text is final
  pub listed_kept : is_among_texts final t ≡ true → StringListing final literals (listed ++ (t, h) ∷ []) left texts created killed
  listed_kept is =
      let no_kill : kills_among final (listed ++ (t, h) ∷ []) ≡ kills_among final listed = kills_more true is ∙ append-nil (kills_among final listed) in
      record {
        interns = listing.interns;
        in_order = listing.in_order;
        log = subst (λ ks. OneSeatLog (listing.interns ++ ks) texts created) (sym no_kill) listing.log;
        made_are = made_more;
        has = subst (HasEach texts) (append_assoc left (kept_among final listed) ((t, h) ∷ []) ∙ ap (λ ks. left ++ ks) (sym (kept_more true is)))
            (HasEach-rotate texts (t, h) (left ++ kept_among final listed) listing.has);
        all = all_more;
        killed_are = listing.killed_are ∙ ap length (sym no_kill);
      }

  -- and is killed where it is not
  pub listed_killed : is_among_texts final t ≡ false → StringListing final literals (listed ++ (t, h) ∷ []) left (next texts (Kill h)) created (killed + 1)
  listed_killed is =
      let kill : kills_among final (listed ++ (t, h) ∷ []) ≡ kills_among final listed ++ Kill h ∷ [] = kills_more false is in
      let pushed = OneSeatLog-push (listing.interns ++ kills_among final listed) (Kill h) texts created listing.log listed_is_live tt in
      let whats : (listing.interns ++ kills_among final listed) ++ Kill h ∷ [] ≡ listing.interns ++ kills_among final (listed ++ (t, h) ∷ []) =
      append_assoc listing.interns (kills_among final listed) (Kill h ∷ []) ∙ ap (λ ks. listing.interns ++ ks) (sym kill) in
      let differ : HandlesDiffer texts = subst HandlesDiffer listing.log.texts_are (live_handles_differ_lem _ listing.log.legal) in
      record {
        interns = listing.interns;
        in_order = listing.in_order;
        log = subst (λ ws. OneSeatLog ws (next texts (Kill h)) created) whats
            (subst (OneSeatLog ((listing.interns ++ kills_among final listed) ++ Kill h ∷ []) (next texts (Kill h))) (add-zero created) pushed);
        made_are = made_more;
        has = subst (HasEach (next texts (Kill h))) (ap (λ ks. left ++ ks) (sym (append-nil (kept_among final listed)) ∙ sym (kept_more false is)))
            (HasEach-kill texts (left ++ kept_among final listed) t h listing.has differ);
        all = all_more;
        killed_are = ap (λ n. n + 1) listing.killed_are ∙ sym (length-append (kills_among final listed) (Kill h ∷ [])) ∙ ap length (sym kill);
      }
