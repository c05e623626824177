-- Some numbers in decimal, by computation: no leading zero, and the zeros within.
use mathlib.Core.Path.{◌≡◌, refl}
use Rattle.text.specs.Texts.{bytes_of, digits, decimal}

pub some-numbers : (decimal 0 ≡ bytes_of "0") × (decimal 9 ≡ bytes_of "9") × (decimal 10 ≡ bytes_of "10") × (decimal 16000 ≡ bytes_of "16000")
    × (decimal 1073741823 ≡ bytes_of "1073741823")
unfolding digits decimal
some-numbers = (refl, refl, refl, refl, refl)
