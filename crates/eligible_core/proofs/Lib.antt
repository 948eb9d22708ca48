mod Bits
mod Table
