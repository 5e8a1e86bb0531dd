-- What the head letters of an office's actors say of those that are ready.
use Rattle.std.proofs.Common.{◌≡◌, ◌≢◌, ℕ, suc, ◌+◌, ◌<◌, Bool, true, false, cond, List, [], ◌∷◌, ◌++◌, length, get_or, nat_eq, Option, Some, None, refl, sym, ap, ◌∙◌, arith, length-append}
use Rattle.std.specs.List.{AllPairs, cons_option, flat_map, slice_get}
use Rattle.std.specs.Option.{option_map, unwrap_or}
use Rattle.std.proofs.lemmas.Bool.{eqb-true}
use Rattle.std.proofs.lemmas.List.{get_or-append-add, get_or_append_left}
use Rattle.office_types.specs.declared.office.ActorRecord.{ActorRecord}
use Rattle.office_types.specs.declared.office.Letter.{Letter}
use Rattle.office_types.specs.declared.office.OfficeState.{OfficeState}
use Rattle.office_types.specs.Definitions.{OfficeDefinitions}
use Rattle.office_types.specs.Ready.{Head, head_at, head_with, heads_of}
use Rattle.office_types.specs.Records.{is_ready_actor}
use Rattle.office_types.specs.ValidOffice.{IsValidOffice, letters_of}
use Rattle.office_books.specs.NumberedItems.{numbered_item}
use Rattle.actor_tree.specs.Following.{head_number, head_numbers}
use Rattle.actor_tree.specs.Heads.{HaveOwnLetters, heads_among}

abbrev Actors : Type 0
Actors = List ActorRecord

-- the head of an actor is that of its number and its head letter's
one_head : (actor : ActorRecord) → option_map (λ (letter : ℕ). record { actor = actor.number; letter = letter }) (head_number actor) ≡ head_at actor
one_head actor = cases (is_ready_actor actor) (slice_get actor.mailbox 0)
  where
    cases : (b : Bool) (o : Option Letter)
        → option_map (λ (letter : ℕ). record { actor = actor.number; letter = letter }) (option_map (λ (head : Head). head.letter) (cond b (option_map (head_with actor) o) None)) ≡ cond b (option_map (head_with actor) o) None
    cases false o = refl
    cases true None = refl
    cases true (Some letter) = refl

pub heads_are : (actors : Actors) (state : OfficeState) → state.actors ≡ actors → heads_among (head_numbers actors) ≡ heads_of (record state { actors = actors })
heads_are [] state is = refl
heads_are (actor ∷ actors) state is =
    ap (λ (o : Option Head). cons_option o (heads_among (head_numbers actors))) (one_head actor) ∙ ap (cons_option (head_at actor)) (heads_are actors (record state { actors = actors }) refl)

-- ---- each letter waits for one actor

inside : {X : Type 0} {x y : X} → ◌≡◌ {A = Option X} (Some x) (Some y) → x ≡ y
inside {X} {x} e = ap (λ (o : Option X). unwrap_or o x) e

-- the head letter of an actor
head_letter : (actor : ActorRecord) (n : ℕ) → head_number actor ≡ Some n → (letter : Letter) × (slice_get actor.mailbox 0 ≡ Some letter) × (letter.number ≡ n)
head_letter actor n is = cases (is_ready_actor actor) (slice_get actor.mailbox 0) refl is
  where
    cases : (b : Bool) (o : Option Letter) → slice_get actor.mailbox 0 ≡ o → option_map (λ (head : Head). head.letter) (cond b (option_map (head_with actor) o) None) ≡ Some n
        → (letter : Letter) × (slice_get actor.mailbox 0 ≡ Some letter) × (letter.number ≡ n)
    cases false o e is = absurd (cc)
    cases true None e is = absurd (cc)
    cases true (Some letter) e is = (letter, e, inside is)

-- an item of a list, by its place
record StandsAt (n : ℕ) (letters : List Letter) : Type 0 where
  pub place : ℕ
  pub within : place < length letters
  pub is_there : (d : Letter) → (get_or letters place d).number ≡ n

first_stands : (mailbox : List Letter) (letter : Letter) (n : ℕ) → slice_get mailbox 0 ≡ Some letter → letter.number ≡ n → (0 < length mailbox) × ((d : Letter) → (get_or mailbox 0 d).number ≡ n)
first_stands [] letter n e is = absurd (cc)
first_stands (first ∷ mailbox) letter n e is = (omega arith, λ d. ap (λ (l : Letter). l.number) (inside e) ∙ is)

-- the head letter of one among these waits among theirs
waits : (number n : ℕ) (actors : Actors) → numbered_item number (head_numbers actors) ≡ Some (Some n) → StandsAt n (letters_of actors)
waits number n [] = λ found. absurd (cc)
waits number n (actor ∷ actors) = cases (nat_eq actor.number number) (waits number n actors)
  where
    cases : (b : Bool) → (numbered_item number (head_numbers actors) ≡ Some (Some n) → StandsAt n (letters_of actors)) → cond b (Some (head_number actor)) (numbered_item number (head_numbers actors)) ≡ Some (Some n)
        → StandsAt n (actor.mailbox ++ letters_of actors)
    cases true rest found =
        let letter = head_letter actor n (inside found) in
        let stands = first_stands actor.mailbox letter.0 n letter.1 letter.2 in
        record {
          place = 0;
          within = omega (arith, stands.0, length-append actor.mailbox (letters_of actors));
          is_there = λ d. ap (λ (l : Letter). l.number) (get_or_append_left actor.mailbox (letters_of actors) d 0 stands.0) ∙ stands.1 d;
        }
    cases false rest found =
        let there = rest found in
        record {
          place = length actor.mailbox + there.place;
          within = omega (arith, there.within, length-append actor.mailbox (letters_of actors));
          is_there = λ d. ap (λ (l : Letter). l.number) (get_or-append-add actor.mailbox (letters_of actors) there.place d) ∙ there.is_there d;
        }

abbrev Apart : Letter → Letter → Type 0
Apart a b = a.number ≢ b.number

later_apart : (mailbox : List Letter) (letters : List Letter) → AllPairs Apart (mailbox ++ letters) → AllPairs Apart letters
later_apart mailbox letters apart = λ i j d before within same.
    apart (length mailbox + i) (length mailbox + j) d (omega arith) (omega (arith, length-append mailbox letters))
    (ap (λ (l : Letter). l.number) (get_or-append-add mailbox letters i d) ∙ (same ∙ sym (ap (λ (l : Letter). l.number) (get_or-append-add mailbox letters j d))))

-- a head letter isn't one of those of later actors
not_later : (actor : ActorRecord) (actors : Actors) (n : ℕ) → AllPairs Apart (actor.mailbox ++ letters_of actors) → head_number actor ≡ Some n → StandsAt n (letters_of actors) → ⊥
not_later actor actors n apart is there =
    let letter = head_letter actor n is in
    let stands = first_stands actor.mailbox letter.0 n letter.1 letter.2 in
    apart 0 (length actor.mailbox + there.place) letter.0 (omega (arith, stands.0)) (omega (arith, there.within, length-append actor.mailbox (letters_of actors)))
    (ap (λ (l : Letter). l.number) (get_or_append_left actor.mailbox (letters_of actors) letter.0 0 stands.0)
    ∙ (stands.1 letter.0 ∙ sym (ap (λ (l : Letter). l.number) (get_or-append-add actor.mailbox (letters_of actors) there.place letter.0) ∙ there.is_there letter.0)))

own_letters : (actors : Actors) → AllPairs Apart (letters_of actors) → HaveOwnLetters (head_numbers actors)
own_letters [] apart = λ number other n found. absurd (cc)
own_letters (actor ∷ actors) apart = λ number other n.
    cases number other n (nat_eq actor.number number) refl (nat_eq actor.number other) refl (own_letters actors (later_apart actor.mailbox (letters_of actors) apart) number other n)
  where
    cases : (number other n : ℕ) (b : Bool) → nat_eq actor.number number ≡ b → (c : Bool) → nat_eq actor.number other ≡ c
        → (numbered_item number (head_numbers actors) ≡ Some (Some n) → numbered_item other (head_numbers actors) ≡ Some (Some n) → number ≡ other)
        → cond b (Some (head_number actor)) (numbered_item number (head_numbers actors)) ≡ Some (Some n) → cond c (Some (head_number actor)) (numbered_item other (head_numbers actors)) ≡ Some (Some n) → number ≡ other
    cases number other n true e true f rest one two = sym (eqb-true actor.number number e) ∙ eqb-true actor.number other f
    cases number other n true e false f rest one two = absurd (not_later actor actors n apart (inside one) (waits other n actors two))
    cases number other n false e true f rest one two = absurd (not_later actor actors n apart (inside two) (waits number n actors one))
    cases number other n false e false f rest one two = rest one two

pub valid_own_letters : (definitions : OfficeDefinitions) (state : OfficeState) → IsValidOffice definitions state → HaveOwnLetters (head_numbers state.actors)
valid_own_letters definitions state valid = own_letters state.actors valid.letters_once
