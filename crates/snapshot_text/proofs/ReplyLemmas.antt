-- Which statuses and words are those of decisions.
use Rattle.std.proofs.Common.{◌≡◌, ◌↔◌, ℕ, Bool, true, false, ◌||◌, nat_eq, IsTrue, refl, sym, ap, ◌∙◌, arith}
use Rattle.std.specs.List.{All, Contains}
use Rattle.std.proofs.lemmas.Bool.{eqb-true}
use Rattle.std.proofs.lemmas.List.Elements.{All-contains, All-from_recursion}
use Rattle.office_types.specs.declared.request.Reply.{Reply}
use Rattle.office_types.specs.declared.request.Word.{Word}
use Rattle.office_types.specs.declared.request.Word.TheVariants as word
use Rattle.office_types.specs.ValidOffice.{IsDecidedReply, decided_words}

-- whether the status goes with the word
abbrev pub goes_with : Word → ℕ → Bool
goes_with word.Actor s = nat_eq s 404 || nat_eq s 201
goes_with word.Letter s = nat_eq s 202
goes_with word.Item s = nat_eq s 404 || nat_eq s 200
goes_with word.Due s = nat_eq s 200
goes_with word.Machine s = nat_eq s 404
goes_with word.Stopped s = nat_eq s 410
goes_with word.Reserved s = nat_eq s 422
goes_with word.Closed s = nat_eq s 410
goes_with word.Moment s = nat_eq s 409
goes_with word.Name s = nat_eq s 409
goes_with word.Actors s = nat_eq s 429
goes_with word.Letters s = nat_eq s 429
goes_with word.Gap s = false
goes_with word.Callers s = false
goes_with word.Replies s = false
goes_with word.Entries s = false
goes_with word.Disk s = false
goes_with word.Journal s = false
goes_with word.Memory s = false

abbrev Row : Type 0
Row = ℕ × Word

at : (w : Word) (s n : ℕ) → nat_eq s n ≡ true → ◌≡◌ {A = Row} (n, w) (s, w)
at w s n is = ap (λ (m : ℕ). (let r : Row = (m, w) in r)) (sym (eqb-true s n is))

either : (a b : Bool) (P : Type 0) → (a ≡ true → P) → (b ≡ true → P) → (a || b) ≡ true → P
either true b P one other is = one refl
either false b P one other is = other is

is_decided : (w : Word) (s : ℕ) → goes_with w s ≡ true → Contains decided_words (s, w)
is_decided word.Actor s is = either (nat_eq s 404) (nat_eq s 201) (Contains decided_words (s, word.Actor)) (λ e. (3, omega arith, at word.Actor s 404 e)) (λ e. (10, omega arith, at word.Actor s 201 e)) is
is_decided word.Letter s is = (11, omega arith, at word.Letter s 202 is)
is_decided word.Item s is = either (nat_eq s 404) (nat_eq s 200) (Contains decided_words (s, word.Item)) (λ e. (6, omega arith, at word.Item s 404 e)) (λ e. (12, omega arith, at word.Item s 200 e)) is
is_decided word.Due s is = (13, omega arith, at word.Due s 200 is)
is_decided word.Machine s is = (0, omega arith, at word.Machine s 404 is)
is_decided word.Stopped s is = (4, omega arith, at word.Stopped s 410 is)
is_decided word.Reserved s is = (5, omega arith, at word.Reserved s 422 is)
is_decided word.Closed s is = (7, omega arith, at word.Closed s 410 is)
is_decided word.Moment s is = (8, omega arith, at word.Moment s 409 is)
is_decided word.Name s is = (1, omega arith, at word.Name s 409 is)
is_decided word.Actors s is = (2, omega arith, at word.Actors s 429 is)
is_decided word.Letters s is = (9, omega arith, at word.Letters s 429 is)
is_decided word.Gap s is = absurd cc
is_decided word.Callers s is = absurd cc
is_decided word.Replies s is = absurd cc
is_decided word.Entries s is = absurd cc
is_decided word.Disk s is = absurd cc
is_decided word.Journal s is = absurd cc
is_decided word.Memory s is = absurd cc

all_go : All (λ (row : ℕ × Word). goes_with row.1 row.0 ≡ true) decided_words
all_go = All-from_recursion (λ (row : ℕ × Word). goes_with row.1 row.0 ≡ true) decided_words
    (refl, (refl, (refl, (refl, (refl, (refl, (refl, (refl, (refl, (refl, (refl, (refl, (refl, (refl, tt))))))))))))))

pub decides_reply : (reply : Reply) (w : Word) (b : Bool) → reply.word ≡ w → b ≡ goes_with w reply.status → IsTrue b ↔ IsDecidedReply reply
decides_reply reply w b is same =
    let own : b ≡ goes_with reply.word reply.status = same ∙ ap (λ (v : Word). goes_with v reply.status) (sym is) in (
      (λ yes. is_decided reply.word reply.status (sym own ∙ yes)),
      (λ has. own ∙ All-contains (λ (row : ℕ × Word). goes_with row.1 row.0 ≡ true) decided_words (reply.status, reply.word) all_go has),
    )

pub no_reply : (reply : Reply) (w : Word) → reply.word ≡ w → ((s : ℕ) → goes_with w s ≡ false) → IsTrue false ↔ IsDecidedReply reply
no_reply reply w is none = decides_reply reply w false is (sym (none reply.status))
