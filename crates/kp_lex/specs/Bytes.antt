-- What each byte is to the cutting.
use Rattle.std.specs.Prelude.{ℕ, Bool, true, false, ◌&&◌, ◌||◌, ◌==◌, nat_le, if◌then◌else◌}
use Rattle.kp_lex.specs.declared.class.Class.{Class}
use Rattle.kp_lex.specs.declared.class.Class.TheVariants.{Alphanumeric, Left, Right, Dash, Equal, Question, Colon, Semicolon, Underscore, LineFeed, Blank, Other}

-- 0 to 9, A to Z, a to z
abbrev pub is_alphanumeric : ℕ → Bool
is_alphanumeric b = (nat_le 48 b && nat_le b 57) || (nat_le 65 b && nat_le b 90) || (nat_le 97 b && nat_le b 122)

-- letters and digits; ( ) - = ? : ; _; line feed; space, tab and carriage return; all others
unfoldable pub class_of : ℕ → Class
class_of b =
    if is_alphanumeric b then Alphanumeric
    else if b == 40 then Left
    else if b == 41 then Right
    else if b == 45 then Dash
    else if b == 61 then Equal
    else if b == 63 then Question
    else if b == 58 then Colon
    else if b == 59 then Semicolon
    else if b == 95 then Underscore
    else if b == 10 then LineFeed
    else if (b == 32) || (b == 9) || (b == 13) then Blank
    else Other

-- letters, digits, - and _ go on with a name
abbrev pub follows_class : Class → Bool
follows_class Alphanumeric = true
follows_class Dash = true
follows_class Underscore = true
follows_class _ = false

-- the byte goes on with a name
abbrev pub follows : ℕ → Bool
follows b = follows_class (class_of b)

-- all but the line feed go on with a comment
abbrev pub in_line_class : Class → Bool
in_line_class LineFeed = false
in_line_class _ = true

-- the byte goes on with a comment
abbrev pub in_line : ℕ → Bool
in_line b = in_line_class (class_of b)

-- a line feed, a carriage return, a space or a tab
abbrev pub is_blank : Class → Bool
is_blank Blank = true
is_blank LineFeed = true
is_blank _ = false

-- a comment begins with it
abbrev pub is_semicolon : Class → Bool
is_semicolon Semicolon = true
is_semicolon _ = false
