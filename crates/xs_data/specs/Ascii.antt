-- Bytes of ASCII by their names, so that no definition has a bare number for one.
use Rattle.std.specs.Prelude.{ℕ}

abbrev pub line_feed : ℕ
line_feed = 10

abbrev pub carriage_return : ℕ
carriage_return = 13

abbrev pub tab : ℕ
tab = 9

abbrev pub space : ℕ
space = 32

abbrev pub quotation_mark : ℕ
quotation_mark = 34

abbrev pub number_sign : ℕ
number_sign = 35

abbrev pub dollar_sign : ℕ
dollar_sign = 36

abbrev pub asterisk : ℕ
asterisk = 42

abbrev pub plus_sign : ℕ
plus_sign = 43

abbrev pub comma : ℕ
comma = 44

abbrev pub hyphen : ℕ
hyphen = 45

abbrev pub full_stop : ℕ
full_stop = 46

abbrev pub slash : ℕ
slash = 47

abbrev pub digit_zero : ℕ
digit_zero = 48

abbrev pub digit_nine : ℕ
digit_nine = 57

abbrev pub colon : ℕ
colon = 58

abbrev pub capital_e : ℕ
capital_e = 69

abbrev pub opening_bracket : ℕ
opening_bracket = 91

abbrev pub backslash : ℕ
backslash = 92

abbrev pub closing_bracket : ℕ
closing_bracket = 93

abbrev pub small_a : ℕ
small_a = 97

abbrev pub small_e : ℕ
small_e = 101

abbrev pub small_u : ℕ
small_u = 117

abbrev pub small_z : ℕ
small_z = 122

abbrev pub opening_brace : ℕ
opening_brace = 123

abbrev pub closing_brace : ℕ
closing_brace = 125
