mod Packing
