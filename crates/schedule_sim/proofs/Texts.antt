-- Texts that are added one after another.
use Rattle.std.proofs.Common.{◌≡◌, ℕ, codes, List, [], ◌∷◌, ◌++◌, map, append-nil, append_assoc, refl, sym, ap, ◌∙◌}
use Rattle.std.proofs.lemmas.List.Concat.{flat_map-append}
use Rattle.intern_log.specs.declared.event.Event.{Event}
use Rattle.schedule_sim.specs.PrintedLines.{Printed, Tells, Answers, Shows, line_of, lines_of, events_among}

-- three pieces are one
pub three_are_one : (out first second third : List ℕ) → ((out ++ first) ++ second) ++ third ≡ out ++ (first ++ (second ++ third))
three_are_one out first second third = append_assoc (out ++ first) second third ∙ append_assoc out first (second ++ third)

-- the lines of one item
pub one_line : (out new : List ℕ) (item : Printed) → new ≡ out ++ line_of item → new ≡ out ++ lines_of (item ∷ [])
one_line out new item is = is ∙ ap (λ l. out ++ l) (sym (append-nil (line_of item)))

-- no line
pub no_line : (out new : List ℕ) → new ≡ out → new ≡ out ++ lines_of []
no_line out new is = is ∙ sym (append-nil out)

-- lines behind others
pub more_lines : (out mid new : List ℕ) (before after : List Printed) → mid ≡ out ++ lines_of before → new ≡ mid ++ lines_of after → new ≡ out ++ lines_of (before ++ after)
more_lines out mid new before after is_mid is_new =
    is_new ∙ ap (λ l. l ++ lines_of after) is_mid ∙ append_assoc out (lines_of before) (lines_of after) ∙ ap (λ l. out ++ l) (sym (flat_map-append line_of before after))

-- the events among items
pub events_of_two : (before after : List Printed) → events_among (before ++ after) ≡ events_among before ++ events_among after
events_of_two [] after = refl
events_of_two (Tells e ∷ before) after = ap (λ l. e ∷ l) (events_of_two before after)
events_of_two (Answers k a ∷ before) after = events_of_two before after
events_of_two (Shows row bucket texts ∷ before) after = events_of_two before after

pub events_told : (events : List Event) → events_among (map Tells events) ≡ events
events_told [] = refl
events_told (e ∷ events) = ap (λ l. e ∷ l) (events_told events)

-- a line's front, put before the rest
pub log_front : (seat word x : List ℕ) → (108 ∷ 111 ∷ 103 ∷ 32 ∷ (seat ++ 32 ∷ (word ++ 32 ∷ []))) ++ x ≡ 108 ∷ 111 ∷ 103 ∷ 32 ∷ (seat ++ 32 ∷ (word ++ 32 ∷ x))
log_front seat word x = ap (λ l. 108 ∷ 111 ∷ 103 ∷ 32 ∷ l) (append_assoc seat (32 ∷ (word ++ 32 ∷ [])) x ∙ ap (λ l. seat ++ 32 ∷ l) (append_assoc word (32 ∷ []) x))

pub chain_front : (row bucket x : List ℕ) → (codes "chain " ++ (row ++ 32 ∷ (bucket ++ 58 ∷ []))) ++ x ≡ codes "chain " ++ (row ++ 32 ∷ (bucket ++ 58 ∷ x))
chain_front row bucket x = append_assoc (codes "chain ") (row ++ 32 ∷ (bucket ++ 58 ∷ [])) x ∙ ap (λ l. codes "chain " ++ l) (append_assoc row (32 ∷ (bucket ++ 58 ∷ [])) x ∙ ap (λ l. row ++ 32 ∷ l) (append_assoc bucket (58 ∷ []) x))

pub three_pieces : (out new f front t b back : List ℕ) → new ≡ out ++ (f ++ (t ++ b)) → f ≡ front → b ≡ back → new ≡ out ++ (front ++ (t ++ back))
three_pieces out new f front t b back is one two = is ∙ ap (λ x. out ++ (x ++ (t ++ b))) one ∙ ap (λ x. out ++ (front ++ (t ++ x))) two

pub four_pieces : (out new f front t middle b back : List ℕ) → new ≡ out ++ (f ++ (t ++ b)) → f ≡ front → t ≡ middle → b ≡ back → new ≡ out ++ (front ++ (middle ++ back))
four_pieces out new f front t middle b back is one two three = three_pieces out new f front t b back is one three ∙ ap (λ x. out ++ (front ++ (x ++ back))) two
