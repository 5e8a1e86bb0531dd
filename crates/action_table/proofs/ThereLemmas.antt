-- Lists of which each part is there, one more part at a time.
use Rattle.std.proofs.Common.{◌≡◌, ℕ, zero, suc, ◌+◌, ◌<◌, ◌≤◌, List, [], ◌∷◌, ◌++◌, Option, None, Some, length, map, take, get_or, refl, sym, ap, ◌∙◌, subst}
use Rattle.std.specs.Option.{option_and_then, option_map}
use Rattle.std.specs.List.{AllByRecursion, AllZip, flat_map}
use Rattle.std.specs.Prelude.{slice_get}
use Rattle.std.proofs.lemmas.List.{flat_map_more, map-append, take_all, take_more}
use Rattle.action_table.specs.Linking.{all_there}

-- ---- what is there

pub map-some : {A B : Type 0} (f : A → B) (o : Option A) (b : B) → option_map f o ≡ Some b → (a : A) × (o ≡ Some a) × (f a ≡ b)
map-some f None b is = absurd (cc)
map-some f (Some a) b is = (a, refl, cc)

pub then-some : {A B : Type 0} (f : A → Option B) (o : Option A) (b : B) → option_and_then f o ≡ Some b → (a : A) × (o ≡ Some a) × (f a ≡ Some b)
then-some f None b is = absurd (cc)
then-some f (Some a) b is = (a, refl, is)

-- ---- one more

pub taken : {X : Type 0} (xs : List X) (i : ℕ) (x : X) → i < length xs → x ≡ get_or xs i x → take (i + 1) xs ≡ take i xs ++ x ∷ []
taken xs i x below is = take_more xs i x below ∙ ap (λ e. take i xs ++ e ∷ []) (sym is)

there-push : {X : Type 0} (os : List (Option X)) (xs : List X) (o : Option X) (x : X) → all_there os ≡ Some xs → o ≡ Some x → all_there (os ++ o ∷ []) ≡ Some (xs ++ x ∷ [])
there-push [] xs None x is one = absurd (cc)
there-push [] xs (Some y) x is one =
    let nil : [] ≡ xs = cc in
    let same : y ≡ x = cc in
    ap (λ e. Some (e ∷ [])) same ∙ ap (λ l. Some (l ++ x ∷ [])) nil
there-push (None ∷ os) xs o x is one = absurd (cc)
there-push (Some y ∷ os) xs o x is one =
    let rest = map-some (λ l. y ∷ l) (all_there os) xs is in
    ap (option_map (λ l. y ∷ l)) (there-push os rest.0 o x rest.1 one) ∙ ap (λ l. Some (l ++ x ∷ [])) rest.2

pub there-more : {X Y : Type 0} (f : X → Option Y) (xs : List X) (i : ℕ) (x : X) (ys : List Y) (y : Y) → i < length xs → x ≡ get_or xs i x
    → all_there (map f (take i xs)) ≡ Some ys → f x ≡ Some y → all_there (map f (take (i + 1) xs)) ≡ Some (ys ++ y ∷ [])
there-more f xs i x ys y below is sofar one =
    ap (λ l. all_there (map f l)) (taken xs i x below is) ∙ ap all_there (map-append f (take i xs) (x ∷ []))
    ∙ there-push (map f (take i xs)) ys (f x) y sofar one

pub there-all : {X Y : Type 0} (f : X → Option Y) (xs : List X) (i : ℕ) (ys : List Y) → length xs ≤ i → all_there (map f (take i xs)) ≡ Some ys → all_there (map f xs) ≡ Some ys
there-all f xs i ys past sofar = subst (λ l. all_there (map f l) ≡ Some ys) (take_all i xs past) sofar

-- one more list of those that are joined
pub joined-more : {X Y : Type 0} (f : X → Option (List Y)) (xs : List X) (i : ℕ) (x : X) (us vs : List Y) → i < length xs → x ≡ get_or xs i x
    → option_map (flat_map (λ (l : List Y). l)) (all_there (map f (take i xs))) ≡ Some us
    → option_map (λ (more : List Y). us ++ more) (f x) ≡ Some vs
    → option_map (flat_map (λ (l : List Y). l)) (all_there (map f (take (i + 1) xs))) ≡ Some vs
joined-more f xs i x us vs below is sofar one =
    let done = map-some (flat_map (λ l. l)) (all_there (map f (take i xs))) us sofar in
    let added = map-some (λ more. us ++ more) (f x) vs one in
    ap (option_map (flat_map (λ l. l))) (there-more f xs i x done.0 added.0 below is done.1 added.1)
    ∙ ap Some (sym (flat_map_more (λ l. l) [] done.0 added.0) ∙ ap (λ l. l ++ added.0) done.2 ∙ added.2)

-- ---- each of them

pub there-cons : {X : Type 0} (o : Option X) (os : List (Option X)) (zs : List X) → all_there (o ∷ os) ≡ Some zs
    → (x : X) × (xs : List X) × (o ≡ Some x) × (all_there os ≡ Some xs) × (x ∷ xs ≡ zs)
there-cons None os zs is = absurd (cc)
there-cons (Some x) os zs is =
    let rest = map-some (λ l. x ∷ l) (all_there os) zs is in
    (x, rest.0, refl, rest.1, rest.2)

-- what each part that there is has
pub there-each : {X Y : Type 0} (f : X → Option Y) (P : Y → Type 0) → ((x : X) (y : Y) → f x ≡ Some y → P y)
    → (xs : List X) (ys : List Y) → all_there (map f xs) ≡ Some ys → AllByRecursion P ys
there-each f P each [] ys is = let nil : [] ≡ ys = cc in subst (AllByRecursion P) nil tt
there-each f P each (x ∷ xs) ys is =
    let parts = there-cons (f x) (map f xs) ys is in
    subst (AllByRecursion P) parts.4 (each x parts.0 parts.2, there-each f P each xs parts.1 parts.3)

-- each part that there is beside what it came from
pub there-zip : {X Y : Type 0} (f : X → Option Y) (xs : List X) (ys : List Y) → all_there (map f xs) ≡ Some ys → AllZip (λ (x : X) (y : Y). f x ≡ Some y) xs ys
there-zip {X} {Y} f [] ys is = let nil : [] ≡ ys = cc in subst (λ (l : List Y). AllZip (λ (x : X) (y : Y). f x ≡ Some y) [] l) nil tt
there-zip {X} {Y} f (x ∷ xs) ys is =
    let parts = there-cons (f x) (map f xs) ys is in
    subst (λ (l : List Y). AllZip (λ (x : X) (y : Y). f x ≡ Some y) (x ∷ xs) l) parts.4 (parts.2, there-zip f xs parts.1 parts.3)

-- ---- pairs

zip-push : {X Y : Type 0} (R : X → Y → Type 0) (xs : List X) (ys : List Y) (x : X) (y : Y) → AllZip R xs ys → R x y → AllZip R (xs ++ x ∷ []) (ys ++ y ∷ [])
zip-push R [] [] x y each one = (one, tt)
zip-push R [] (b ∷ ys) x y each one = absurd each
zip-push R (a ∷ xs) [] x y each one = absurd each
zip-push R (a ∷ xs) (b ∷ ys) x y each one = (each.0, zip-push R xs ys x y each.1 one)

pub zip-more : {X Y : Type 0} (R : X → Y → Type 0) (xs : List X) (i : ℕ) (x : X) (ys : List Y) (y : Y) → i < length xs → x ≡ get_or xs i x
    → AllZip R (take i xs) ys → R x y → AllZip R (take (i + 1) xs) (ys ++ y ∷ [])
zip-more R xs i x ys y below is sofar one =
    subst (λ l. AllZip R l (ys ++ y ∷ [])) (sym (taken xs i x below is)) (zip-push R (take i xs) ys x y sofar one)

pub zip-all : {X Y : Type 0} (R : X → Y → Type 0) (xs : List X) (i : ℕ) (ys : List Y) → length xs ≤ i → AllZip R (take i xs) ys → AllZip R xs ys
zip-all R xs i ys past sofar = subst (λ l. AllZip R l ys) (take_all i xs past) sofar

pub zip-append : {X Y : Type 0} (R : X → Y → Type 0) (xs others : List X) (ys more : List Y) → AllZip R xs ys → AllZip R others more → AllZip R (xs ++ others) (ys ++ more)
zip-append R [] others [] more each rest = rest
zip-append R [] others (y ∷ ys) more each rest = absurd each
zip-append R (x ∷ xs) others [] more each rest = absurd each
zip-append R (x ∷ xs) others (y ∷ ys) more each rest = (each.0, zip-append R xs others ys more each.1 rest)

pub zip-weaker : {X Y : Type 0} (R S : X → Y → Type 0) → ((x : X) (y : Y) → R x y → S x y) → (xs : List X) (ys : List Y) → AllZip R xs ys → AllZip S xs ys
zip-weaker R S weaker [] [] each = tt
zip-weaker R S weaker [] (y ∷ ys) each = absurd each
zip-weaker R S weaker (x ∷ xs) [] each = absurd each
zip-weaker R S weaker (x ∷ xs) (y ∷ ys) each = (weaker x y each.0, zip-weaker R S weaker xs ys each.1)

-- what holds of the ones gives what holds of the others
pub zip-each : {X Y : Type 0} (R : X → Y → Type 0) (P : X → Type 0) (Q : Y → Type 0) → ((x : X) (y : Y) → R x y → P x → Q y)
    → (xs : List X) (ys : List Y) → AllZip R xs ys → AllByRecursion P xs → AllByRecursion Q ys
zip-each R P Q gives [] [] each all = tt
zip-each R P Q gives [] (y ∷ ys) each all = absurd each
zip-each R P Q gives (x ∷ xs) [] each all = absurd each
zip-each R P Q gives (x ∷ xs) (y ∷ ys) each all = (gives x y each.0 all.0, zip-each R P Q gives xs ys each.1 all.1)

pub zip-length : {X Y : Type 0} (R : X → Y → Type 0) (xs : List X) (ys : List Y) → AllZip R xs ys → length ys ≡ length xs
zip-length R [] [] each = refl
zip-length R [] (y ∷ ys) each = absurd each
zip-length R (x ∷ xs) [] each = absurd each
zip-length R (x ∷ xs) (y ∷ ys) each = ap suc (zip-length R xs ys each.1)

pub zip-nil : {X Y : Type 0} (R : X → Y → Type 0) (ys : List Y) → AllZip R [] ys → ys ≡ []
zip-nil R [] each = refl
zip-nil R (y ∷ ys) each = absurd each

-- what stands at a place
pub zip-at : {X Y : Type 0} (R : X → Y → Type 0) (xs : List X) (ys : List Y) (n : ℕ) (y : Y) → AllZip R xs ys → slice_get ys n ≡ Some y
    → (x : X) × (slice_get xs n ≡ Some x) × R x y
zip-at R [] [] n y each at = absurd (cc)
zip-at R [] (b ∷ ys) n y each at = absurd each
zip-at R (a ∷ xs) [] n y each at = absurd each
zip-at R (a ∷ xs) (b ∷ ys) zero y each at = let same : b ≡ y = cc in (a, refl, subst (R a) same each.0)
zip-at R (a ∷ xs) (b ∷ ys) (suc n) y each at = zip-at R xs ys n y each.1 at

pub recursion-append : {X : Type 0} (P : X → Type 0) (xs ys : List X) → AllByRecursion P xs → AllByRecursion P ys → AllByRecursion P (xs ++ ys)
recursion-append P [] ys all rest = rest
recursion-append P (x ∷ xs) ys all rest = (all.0, recursion-append P xs ys all.1 rest)

-- what holds in each list holds in all of them together
pub joined-each : {X : Type 0} (P : X → Type 0) (lists : List (List X)) → AllByRecursion (AllByRecursion P) lists → AllByRecursion P (flat_map (λ (l : List X). l) lists)
joined-each P [] all = tt
joined-each P (l ∷ lists) all = recursion-append P l (flat_map (λ m. m) lists) all.0 (joined-each P lists all.1)
